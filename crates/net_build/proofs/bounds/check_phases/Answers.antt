use Rattle.std.proofs.Common.{refl, rules}
use Rattle.net_parts.specs.Bounds.{IsBoundedPhase}
use Rattle.foundation.proofs.FirstLaws.{FromOne-here}
use Rattle.foundation.proofs.ListLaws.{All-step, All-end}
use Rattle.net_build.proofs.bounds.check_phases.Goals as goal

pub returns-then-not-is_bounded_phase : goal.returns-then-not-is_bounded_phase
returns-then-not-is_bounded_phase c =
    rw c.bound.ensures (refl, refl, FromOne-here IsBoundedPhase (λ p. IsBoundedPhase p → ⊥) c.args.phases.now c.loop-index.index c.index-phases-index.result _ refl c.loop-index-test.true c.index-phases-index.is c.loop-index.invariant (λ ok. search rules))

pub loop-index-preserved : goal.loop-index-preserved
loop-index-preserved c =
    All-step IsBoundedPhase c.args.phases.now c.loop-index.index c.index-phases-index.result c.loop-index-test.true c.index-phases-index.is c.loop-index.invariant (search rules)

pub returns : goal.returns
returns c = All-end IsBoundedPhase c.args.phases.now c.loop-index.index c.loop-index-test.false c.loop-index.invariant
