use Rattle.std.proofs.Common.{refl, arith}
use Rattle.net_parts.specs.Bounds.{IsBoundedTurn}
use Rattle.foundation.proofs.FirstLaws.{FromOne-here}
use Rattle.foundation.proofs.ListLaws.{All-step, All-end}
use Rattle.net_build.proofs.bounds.check_turns.Goals as goal

pub returns-then-turn-gt1000 : goal.returns-then-turn-gt1000
returns-then-turn-gt1000 c =
    rw c.bound.ensures (refl, refl, FromOne-here IsBoundedTurn (λ t. IsBoundedTurn t → ⊥) c.args.turns.now c.loop-index.index c.index-turns-index.result _ refl c.loop-index-test.true c.index-turns-index.is c.loop-index.invariant (λ ok. omega arith))

pub loop-index-preserved : goal.loop-index-preserved
loop-index-preserved c =
    All-step IsBoundedTurn c.args.turns.now c.loop-index.index c.index-turns-index.result c.loop-index-test.true c.index-turns-index.is c.loop-index.invariant c.if-turn-gt1000.false

pub returns : goal.returns
returns c = All-end IsBoundedTurn c.args.turns.now c.loop-index.index c.loop-index-test.false c.loop-index.invariant
