use Rattle.std.proofs.Common.{map, take}
use Rattle.delay_report.specs.Reports.{plan_record}
use Rattle.world_records.specs.Written.{Adds}
use Rattle.delay_report.proofs.plans.write_plans.Given as goal

abbrev pub invariant-loop-plan : goal.invariant-loop-plan
invariant-loop-plan l = Adds l.fn.out l.out (map (plan_record l.net) (take l.plan-index l.plans))
