use Rattle.waits.proofs.TableLaws.{bounds-are}
use Rattle.waits.proofs.bounds.phase_bounds.Goals as goal

pub returns : goal.returns
returns c = record {
  value = bounds-are c.args.net.now c.args.node c.args.phase c.run.result c.plan-plan.result.now c.until_recalled.result c.until_called.result c.wait_bound.result c.wait_bound-2.result c.run.ensures.value c.plan-plan.ensures.value
      c.until_recalled.ensures.value c.until_called.ensures.value c.wait_bound.ensures.value c.wait_bound-2.ensures.value;
}
