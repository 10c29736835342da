use Rattle.std.proofs.Common.{arith}
use Rattle.clusters.proofs.CutLaws.{growing-none, growing-skip, growing-take}
use Rattle.clusters.proofs.cuts.run_end.Goals as goal
use Rattle.clusters.proofs.cuts.run_end.Goals.{then-series-x-gt0+else-series-x, else-series-x-gt0}

pub loop-x-init : goal.loop-x-init
loop-x-init c = growing-none c.args.gap c.args.rate c.args.most c.args.series.now c.args.first c.requires.there c.requires.filled c.requires.most.0

pub loop-x-preserved : goal.loop-x-preserved
loop-x-preserved c = elim c.if-series-x-gt0.branch [
  | then-series-x-gt0+else-series-x w ↦
      rw (w.end-is, w.peak-is)
      (growing-take c.args.gap c.args.rate c.args.most c.args.series.now c.args.first c.loop-x.end c.loop-x.peak c.loop-x.x w.max-peak.result c.loop-x.invariant (omega arith) (omega arith) (omega arith) (omega arith) (omega arith) (omega arith))
  | else-series-x-gt0 w ↦ rw (w.end-is, w.peak-is) (growing-skip c.args.gap c.args.rate c.args.most c.args.series.now c.args.first c.loop-x.end c.loop-x.peak c.loop-x.x c.loop-x.invariant (omega arith))
]
