use Rattle.std.proofs.Common.{◌≡◌, ◌+◌, take}
use Rattle.runs.specs.Tallies.{IsTally, none_count, planned_delays}
use Rattle.runs.proofs.plan_tallies.PlanTally.add.Given as goal

abbrev pub invariant-loop-plan : goal.invariant-loop-plan
invariant-loop-plan l = record {
  plans : l.self.plans ≡ l.fn.self.plans + l.plan-index;
  none : l.self.none ≡ l.fn.self.none + none_count (take l.plan-index l.plans);
  delay : l.self.delay ≡ l.fn.self.delay + planned_delays (take l.plan-index l.plans);
  bounds : IsTally l.self;
}
