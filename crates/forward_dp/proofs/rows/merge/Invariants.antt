use Rattle.std.proofs.Common.{◌-◌, length}
use Rattle.forward_dp.proofs.Meeting.{AreBehind}
use Rattle.forward_dp.proofs.rows.merge.Given as goal

-- the rows of the left list so far, and those of the right that are no later
abbrev pub invariant-loop-row : goal.invariant-loop-row
invariant-loop-row l = AreBehind l.left l.right l.row-index l.next l.fn.rows.items l.rows.items

abbrev pub invariant-loop-next : goal.invariant-loop-next
invariant-loop-next l = AreBehind l.left l.right l.row-index l.next l.fn.rows.items l.rows.items

abbrev pub decreases-loop-next : goal.decreases-loop-next
decreases-loop-next l = length l.right - l.next

abbrev pub invariant-loop-next-2 : goal.invariant-loop-next-2
invariant-loop-next-2 l = AreBehind l.left l.right (length l.left) l.next l.fn.rows.items l.rows.items

abbrev pub decreases-loop-next-2 : goal.decreases-loop-next-2
decreases-loop-next-2 l = length l.right - l.next
