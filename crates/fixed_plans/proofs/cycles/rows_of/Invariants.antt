use Rattle.std.proofs.Common.{◌≡◌, ◌==◌, filter, take}
use Rattle.fixed_plans.proofs.cycles.rows_of.Given as goal

abbrev pub invariant-loop-row : goal.invariant-loop-row
invariant-loop-row l = l.own.items ≡ filter (λ r. r.node == l.node) (take l.row-index l.rows)
