use Rattle.std.proofs.Common.{◌≡◌, ◌≤◌, ◌++◌, List, ℕ, Option, IfSome, length, sym, ap, subst, ◌∙◌, arith}
use Rattle.std.proofs.lemmas.Grind.{common_steps}
use Rattle.std.proofs.lemmas.List.Elements.{All-more}
use Rattle.dp_certificate.specs.declared.Entry.{Entry}
use Rattle.certificate_form.specs.CertificateText.{entry_front}
use Rattle.certificate_form.proofs.WritingLaws.{entry_behind, front_kept}
use Rattle.certificate_form.proofs.writing.write_entries.Goals as goal
use Rattle.certificate_form.proofs.writing.write_entries.Goals.{then-not-begins_like, else-not-begins_like}

pub loop-entry-preserved : goal.loop-entry-preserved
loop-entry-preserved c =
    let phases = c.args.phases in
    let before = c.loop-entry.text.items in
    let now = c.extend_from_slice-in-loop-entry.new.self.items in
    let front = c.if-not-begins_like.front in
    let is : now ≡ (before ++ c.as_bytes.result.now) ++ c.as_bytes-in-loop-entry.result.now =
    c.in_ok-extend_from_slice-2.ensures.items ∙ ap (λ (y : List ℕ). y ++ c.as_bytes-in-loop-entry.result.now) c.in_ok-extend_from_slice.ensures.items in
    elim c.if-not-begins_like.branch [
      | then-not-begins_like w ↦
          let is_front = w.front-is ∙ w.put_front.ensures.text in
          let short : length front ≤ 42 = omega (arith, ap length w.front-is, w.put_front.ensures.short) in
          let line = entry_behind phases _ before now c.as_bytes.result.now c.as_bytes-in-loop-entry.result.now (c.as_bytes.ensures ∙ is_front) (c.as_bytes-in-loop-entry.ensures ∙ c.put_back.ensures.text) is in
          record {
            text = grind (arith, common_steps, line);
            places = All-more (λ (e : Entry). length e.counts ≡ 4) c.args.entries.now c.loop-entry.entry-index _ (omega arith) c.loop-entry.invariant.places c.put_back.ensures.places;
            capacity = omega (arith, c.in_ok-extend_from_slice.ensures.capacity, c.in_ok-extend_from_slice-2.ensures.capacity, c.loop-entry.invariant.capacity);
            room = omega (arith, c.in_ok-extend_from_slice.ensures.len, c.in_ok-extend_from_slice-2.ensures.len, c.loop-entry.invariant.room, ap length c.as_bytes.ensures, ap length c.as_bytes-in-loop-entry.ensures, c.put_back.ensures.short, short);
            short = short;
            front = subst (λ (o : Option Entry). IfSome o (λ (e : Entry). front ≡ entry_front phases e)) (sym w.last-is) is_front;
          }
      | else-not-begins_like w ↦
          let short : length front ≤ 42 = omega (arith, ap length w.front-is, c.loop-entry.invariant.short) in
          let line = entry_behind phases _ before now c.as_bytes.result.now c.as_bytes-in-loop-entry.result.now
          (c.as_bytes.ensures ∙ w.front-is ∙ front_kept phases c.loop-entry.last _ _ c.loop-entry.front c.loop-entry.invariant.front (c.begins_like.ensures w.if-not-begins_like.false))
          (c.as_bytes-in-loop-entry.ensures ∙ c.put_back.ensures.text) is in
          record {
            text = grind (arith, common_steps, line);
            places = All-more (λ (e : Entry). length e.counts ≡ 4) c.args.entries.now c.loop-entry.entry-index _ (omega arith) c.loop-entry.invariant.places c.put_back.ensures.places;
            capacity = omega (arith, c.in_ok-extend_from_slice.ensures.capacity, c.in_ok-extend_from_slice-2.ensures.capacity, c.loop-entry.invariant.capacity);
            room = omega (arith, c.in_ok-extend_from_slice.ensures.len, c.in_ok-extend_from_slice-2.ensures.len, c.loop-entry.invariant.room, ap length c.as_bytes.ensures, ap length c.as_bytes-in-loop-entry.ensures, c.put_back.ensures.short, short);
            short = short;
            front = subst (λ (o : Option Entry). IfSome o (λ (e : Entry). front ≡ entry_front phases e)) (sym w.last-is)
                (subst (λ (y : List ℕ). IfSome c.loop-entry.last (λ (e : Entry). y ≡ entry_front phases e)) (sym w.front-is) c.loop-entry.invariant.front);
          }
    ]
