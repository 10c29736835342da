use Rattle.std.proofs.Common.{◌+◌, ◌-◌, length}
use Rattle.parallel_dp.specs.Joins.{IsJoining}
use Rattle.parallel_dp.proofs.joins.join.Given as goal

-- the fronts of both lists are joined
abbrev pub invariant-loop-left : goal.invariant-loop-left
invariant-loop-left l = IsJoining l.a l.b l.left l.right l.joined.items

abbrev pub decreases-loop-left : goal.decreases-loop-left
decreases-loop-left l = length l.a + length l.b - (l.left + l.right)
