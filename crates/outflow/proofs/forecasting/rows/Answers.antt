use Rattle.std.proofs.Common.{◌+◌, arith}
use Rattle.outflow.proofs.RowLaws.{above-of, rowing-more, rowing-skip}
use Rattle.outflow.proofs.forecasting.rows.Goals as goal
use Rattle.outflow.proofs.forecasting.rows.Goals.{then-amount-gt0+in_ok-push, else-amount-gt0}

pub push-requires-clause-above : goal.push-requires-clause-above
push-requires-clause-above c = above-of c.loop-k.forecast (c.args.now + c.loop-k.k) c.loop-k.invariant.below

pub loop-k-preserved : goal.loop-k-preserved
loop-k-preserved c = elim c.if-amount-gt0.branch [
  | then-amount-gt0+in_ok-push w ↦
      rw w.forecast-is (rowing-more c.args.now c.args.amounts.now c.loop-k.forecast w.push.new.self c.loop-k.k c.loop-k.invariant (omega arith) w.in_ok-push.ensures.rows)
  | else-amount-gt0 w ↦ rw w.forecast-is (rowing-skip c.args.now c.args.amounts.now c.loop-k.forecast c.loop-k.k c.loop-k.invariant (omega arith))
]
