use Rattle.std.proofs.Common.{All, Contains, take}
use Rattle.forward_dp.specs.Rows.{IsNoWorse}
use Rattle.forward_dp.proofs.best_of.Given as goal

-- one of the rows, and no worse than those so far
abbrev pub invariant-loop-row : goal.invariant-loop-row
invariant-loop-row l = record {
  among : Contains l.rows l.best;
  best : All (λ r. IsNoWorse l.best r.entry.delay r.order) (take l.row-index l.rows);
}
