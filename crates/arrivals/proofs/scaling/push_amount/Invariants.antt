use Rattle.std.proofs.Common.{◌-◌, ◌≤◌}
use Rattle.arrivals.specs.ScaledRows.{Brings}
use Rattle.arrivals.proofs.scaling.push_amount.Given as goal

-- all but what is left was brought
abbrev pub invariant-loop-left : goal.invariant-loop-left
invariant-loop-left l = (l.left ≤ l.amount) × Brings l.net l.link l.second (l.amount - l.left) l.fn.rows.items l.rows.items

abbrev pub decreases-loop-left : goal.decreases-loop-left
decreases-loop-left l = l.left
