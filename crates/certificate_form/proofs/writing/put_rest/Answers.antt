use Rattle.std.proofs.Common.{◌≡◌, ◌++◌, codes, ℕ, List, ap, ◌∙◌, append_assoc, arith, rules}
use Rattle.std.specs.List.{flat_map}
use Rattle.certificate_form.specs.CertificateText.{entry_line}
use Rattle.certificate_form.proofs.PartLaws.{lines_parted, last_broken, on_err, on_ok, on_ok_too, put_broken, put_part, put_whole}
use Rattle.certificate_form.proofs.writing.put_rest.Goals as goal
use Rattle.certificate_form.proofs.writing.put_rest.Given as Given

pub returns-in_err-put-clause-breaks : goal.returns-in_err-put-clause-breaks
returns-in_err-put-clause-breaks g c =
    let line = entry_line c.args.phases in
    let filled = c.as_slice.ensures.value ∙ on_ok c.write_entries.result c.unwrap.result c.unwrap.ensures c.write_entries.ensures.text in
    let breaks = put_broken _ _ _ _ _ _ (flat_map line c.split_at.result.0.now) (flat_map line c.split_at.result.1.now ++ codes "end\n") c.as_slice.result.now c.loop-left.invariant.put
    (lines_parted line 512 c.loop-left.left.now _ _ (codes "end\n") c.split_at.ensures.front c.split_at.ensures.back) filled c.in_err-put.ensures.breaks in
    search (rules, breaks)

pub loop-left-preserved : goal.loop-left-preserved
loop-left-preserved g c =
    let line = entry_line c.args.phases in
    let filled = c.as_slice.ensures.value ∙ on_ok c.write_entries.result c.unwrap.result c.unwrap.ensures c.write_entries.ensures.text in
    record {
      put = put_part _ _ _ _ _ _ (flat_map line c.split_at.result.0.now) (flat_map line c.split_at.result.1.now ++ codes "end\n") c.as_slice.result.now c.clear.new.self.items c.loop-left.invariant.put
          (lines_parted line 512 c.loop-left.left.now _ _ (codes "end\n") c.split_at.ensures.front c.split_at.ensures.back) filled c.in_ok-put.ensures.ok c.clear.ensures.items;
      room = omega (arith, c.clear.ensures.len, c.clear.ensures.capacity, c.write_entries.ensures.capacity, c.loop-left.invariant.room);
    }

-- what is put last is what the buffer held, and the lines that are left
last : (g : Given.Over) (c : goal.After-put-2 g) → c.as_slice-2.result.now ≡ c.loop-left.text.items ++ (flat_map (entry_line c.args.phases) c.loop-left.left.now ++ codes "end\n")
last g c =
    let lines = on_ok c.write_entries-2.result c.unwrap-2.result c.unwrap-2.ensures c.write_entries-2.ensures.text in
    let added : c.extend_from_slice.new.self.items ≡ c.write_entries-2.new.text.items ++ codes "end\n" = rw c.unwrap-3.ensures at c.extend_from_slice.ensures.items in
    c.as_slice-2.ensures.value ∙ added ∙ ap (λ (y : List ℕ). y ++ codes "end\n") lines ∙ append_assoc c.loop-left.text.items (flat_map (entry_line c.args.phases) c.loop-left.left.now) (codes "end\n")

pub returns-clause-ok : goal.returns-clause-ok
returns-clause-ok g c = on_ok_too c.put-2.result (put_whole _ _ _ _ _ _ c.as_slice-2.result.now c.loop-left.invariant.put (last g c)) c.put-2.ensures.ok

pub returns-clause-breaks : goal.returns-clause-breaks
returns-clause-breaks g c = on_err c.put-2.result (last_broken _ _ _ _ _ _ c.as_slice-2.result.now c.loop-left.invariant.put (last g c)) c.put-2.ensures.breaks
