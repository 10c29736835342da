use Rattle.arrivals.proofs.ScalingLaws.{HaveEntered}
use Rattle.arrivals.proofs.scaling.scaled_rows.Given as goal

-- the rows so far have come
abbrev pub invariant-loop-row : goal.invariant-loop-row
invariant-loop-row l = HaveEntered l.net l.factor l.coming l.row-index l.entered.items l.rows.items
