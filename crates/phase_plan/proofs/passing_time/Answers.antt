use Rattle.std.proofs.Common.{arith}
use Rattle.phase_plan.proofs.RingLaws.{time_at-more}
use Rattle.phase_plan.proofs.passing_time.Goals as goal

pub loop-k-preserved : goal.loop-k-preserved
loop-k-preserved c = record {
  value = omega (
    arith,
    c.loop-k.invariant.value,
    c.passing-total.ensures.value,
    time_at-more c.args.phases.now c.args.all c.args.low c.loop-k.k (omega (arith, c.loop-k.auto.k, c.requires.low)),
  );
  bounds = omega (arith, c.loop-k.invariant.bounds, c.passing-total.ensures.bounds, c.loop-k.auto.k);
}
