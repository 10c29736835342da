use Rattle.std.proofs.Common.{◌≡◌, sum}
use Rattle.std.specs.List.{flat_map, range_with_len}
use Rattle.schedule_meaning.specs.Choice.{best_after}
use Rattle.schedule_meaning.proofs.Choosing.{beginning_with}
use Rattle.schedule_meaning.proofs.planners.+walk_on.Given as goal

abbrev pub decreases-walk_on : goal.decreases-walk_on
decreases-walk_on g l = sum l.left.now

-- the counts and the sequence are as before, and the best is that of the orders that begin with a phase so far
abbrev pub invariant-loop-phase : goal.invariant-loop-phase
invariant-loop-phase g l = record {
  left : l.left ≡ l.fn.left;
  sequence : l.sequence.items ≡ l.fn.sequence.items;
  best : l.best ≡ best_after l.i l.fn.sequence.items l.fn.best (flat_map (beginning_with l.fn.left) (range_with_len 0 l.phase));
}
