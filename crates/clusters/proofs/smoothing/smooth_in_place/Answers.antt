use Rattle.std.proofs.Common.{arith}
use Rattle.clusters.proofs.SmoothLaws.{smoothing-none, smoothing-fits, smoothing-more, smoothing-all}
use Rattle.clusters.proofs.smoothing.smooth_in_place.Goals as goal

pub loop-amount-init : goal.loop-amount-init
loop-amount-init c = smoothing-none c.args.sat c.args.amounts.now

pub overflow_add-waiting : goal.overflow_add-waiting
overflow_add-waiting c =
    omega (arith, smoothing-fits c.args.sat c.args.amounts.now c.loop-amount.amounts c.loop-amount.amount-index c.loop-amount.carry c.loop-amount.invariant (omega arith) (omega arith))

pub loop-amount-preserved : goal.loop-amount-preserved
loop-amount-preserved c =
    smoothing-more c.args.sat c.args.amounts.now c.loop-amount.amounts c.loop-amount.amount-index c.loop-amount.carry c.min.result c.loop-amount.invariant (omega arith) (omega arith)
    c.min.ensures

pub returns : goal.returns
returns c =
    smoothing-all c.args.sat c.args.amounts.now c.loop-amount.amounts c.loop-amount.amount-index c.loop-amount.carry c.loop-amount.invariant (omega arith) (omega arith)
