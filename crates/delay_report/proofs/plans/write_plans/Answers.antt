use Rattle.std.proofs.Common.{arith}
use Rattle.delay_report.specs.Reports.{plan_record}
use Rattle.world_records.proofs.WrittenLaws.{adds-more}
use Rattle.delay_report.proofs.plans.write_plans.Goals as goal

pub loop-plan-preserved : goal.loop-plan-preserved
loop-plan-preserved c = adds-more (plan_record c.args.net.now) c.args.plans.now c.loop-plan.plan-index c.plan-item.result c.args.out.now c.loop-plan.out c.write_plan.new.out (omega arith) c.plan-item.is c.loop-plan.invariant c.in_ok-write_plan.ensures
