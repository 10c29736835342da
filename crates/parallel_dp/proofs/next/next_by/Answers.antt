use Rattle.std.proofs.Common.{◌≡◌, ◌+◌, length, ap, subst, sym, arith}
use Rattle.std.proofs.lemmas.List.{get_or_default}
use Rattle.std.proofs.lemmas.Result.{IfOk-weaker}
use Rattle.dp_certificate.specs.Certificates.{no_entry}
use Rattle.parallel_dp.specs.Next.{AreReachedBy}
use Rattle.parallel_dp.specs.Pieces.{IsJoinOf}
use Rattle.parallel_dp.proofs.NextLaws.{AreSplit, more-split, none-here, same-split, some-here, split-joined}
use Rattle.parallel_dp.proofs.next.next_by.Goals as goal
use Rattle.parallel_dp.proofs.next.next_by.Goals.{in-Some+in_ok-near, in_default}

pub loop-entry-preserved : goal.loop-entry-preserved
loop-entry-preserved g c =
    let p = c.args.i.now in
    let piece = c.args.piece.now in
    let n = c.loop-entry.entry-index in
    let k = c.args.phase in
    record {
      split = elim c.match-next_after.branch [
        | in-Some+in_ok-near w ↦
            subst (λ xs. AreSplit p piece (n + 1) k xs c.match-next_after.anew.items) (sym (ap (λ v. v.items) w.kept-is))
            (subst (AreSplit p piece (n + 1) k w.put_in_either.new.kept.items) (sym (ap (λ v. v.items) w.anew-is))
            (more-split p piece n k w.in-Some.after c.loop-entry-test.true
            (some-here p piece n k _ w.in-Some.after c.next_after.result (get_or_default piece n no_entry _ c.loop-entry-test.true) w.in-Some.is c.next_after.ensures.value)
            c.loop-entry.kept.items c.loop-entry.anew.items w.put_in_either.new.kept.items w.put_in_either.new.anew.items w.in_ok-near.ensures c.loop-entry.invariant.split))
        | in_default w ↦
            subst (λ xs. AreSplit p piece (n + 1) k xs c.match-next_after.anew.items) (sym (ap (λ v. v.items) w.kept-is))
            (subst (AreSplit p piece (n + 1) k c.loop-entry.kept.items) (sym (ap (λ v. v.items) w.anew-is))
            (same-split p piece n k c.loop-entry.kept.items c.loop-entry.anew.items
            (none-here p piece n k _ c.next_after.result (get_or_default piece n no_entry _ c.loop-entry-test.true) w.in_default.not-Some c.next_after.ensures.value) c.loop-entry.invariant.split))
      ];
      steps = omega (arith, c.loop-entry.invariant.steps, c.next_after.ensures.steps);
    }

pub returns-clause-next : goal.returns-clause-next
returns-clause-next g c =
    let p = c.args.i.now in
    let piece = c.args.piece.now in
    let all : c.loop-entry.entry-index ≡ length piece = omega arith in
    IfOk-weaker c.join_pieces.result (λ v. IsJoinOf c.loop-entry.kept.items c.loop-entry.anew.items v.items) (λ v. AreReachedBy p piece (length piece) c.args.phase v.items)
    (λ v join. split-joined p piece (length piece) c.args.phase c.loop-entry.kept.items c.loop-entry.anew.items v.items
    (subst (λ n. AreSplit p piece n c.args.phase c.loop-entry.kept.items c.loop-entry.anew.items) all c.loop-entry.invariant.split) join) c.join_pieces.ensures
