use Rattle.std.proofs.Common.{◌+◌, arith}
use Rattle.waits.specs.Waits.{longest_intergreen, longest_span}
use Rattle.waits.proofs.TableLaws.{span-is, span-most, spans-more}
use Rattle.waits.proofs.bounds.longest_spans.Goals as goal

pub loop-k-preserved : goal.loop-k-preserved
loop-k-preserved c = record {
  value = spans-more (longest_span c.args.plan.now (longest_intergreen c.args.plan.now c.args.look)) c.args.low c.loop-k.k c.loop-k.total (c.phase-times.result.now.greatest + c.longest_intergreen.result)
      (omega (arith, c.loop-k.auto.k)) c.loop-k.invariant.value
      (span-is c.args.plan.now c.args.look c.loop-k.k c.phase-times.result.now c.longest_intergreen.result c.phase-times.ensures.value c.longest_intergreen.ensures.value);
  bounds = (let most = span-most c.phase-times.result.now c.args.look c.longest_intergreen.result c.phase-times.ensures.bounds c.requires.look c.longest_intergreen.ensures.value in omega (arith, c.loop-k.invariant.bounds, c.loop-k.auto.k, most));
}
