use Rattle.std.proofs.Common.{inl, inr, arith}
use Rattle.clusters.proofs.ForecastLaws.{putting-put, putting-skip}
use Rattle.clusters.proofs.inflows.add_forecast.Goals as goal
use Rattle.clusters.proofs.inflows.add_forecast.Goals.{then-row-from+then-place-amounts, then-row-from+else-place-amounts, else-row-from}

pub loop-row-preserved : goal.loop-row-preserved
loop-row-preserved c = elim c.if-row-from.branch [
  | then-row-from+then-place-amounts w ↦
      rw w.amounts-is
      (putting-put c.args.now c.args.from c.args.rows.now c.args.amounts.now c.loop-row.amounts c.loop-row.row-index _ c.requires.rows c.loop-row.invariant (omega arith) (omega arith) (omega arith) (omega arith) (omega arith))
  | then-row-from+else-place-amounts w ↦
      rw w.amounts-is (putting-skip c.args.now c.args.from c.args.rows.now c.args.amounts.now c.loop-row.amounts c.loop-row.row-index c.loop-row.invariant (omega arith) (inr (omega arith)))
  | else-row-from w ↦
      rw w.amounts-is (putting-skip c.args.now c.args.from c.args.rows.now c.args.amounts.now c.loop-row.amounts c.loop-row.row-index c.loop-row.invariant (omega arith) (inl (omega arith)))
]
