use Rattle.std.proofs.Common.{ℕ, true, false, List, slice_get, sym, ap, ◌∙◌}
use Rattle.phase_plan.proofs.RingLaws.{unmarked-first}
use Rattle.phase_plan.proofs.first_unmarked.Goals as goal

pub returns-then-not-phases-k : goal.returns-then-not-phases-k
returns-then-not-phases-k c =
    let l = c.loop-k in
    sym (ap (λ (ks : List ℕ). slice_get ks 0) (l.invariant ∙ unmarked-first c.args.phases.now l.k c.args.high false c.loop-k-test.true c.if-not-phases-k.true))

pub loop-k-preserved : goal.loop-k-preserved
loop-k-preserved c = c.loop-k.invariant ∙ unmarked-first c.args.phases.now c.loop-k.k c.args.high true c.loop-k-test.true c.if-not-phases-k.false
