use Rattle.std.proofs.Common.{◌≡◌, ◌≤◌, ◌++◌, map, take, vec_capacity}
use Rattle.intersection_actor.specs.Acting.{without_records}
use Rattle.runs.specs.Ending.{records_in}
use Rattle.runs.proofs.Mixed.{mixed}
use Rattle.runs.proofs.network_actors.Actors.move_records.Given as goal

abbrev pub invariant-loop-node : goal.invariant-loop-node
invariant-loop-node l = record {
  actors : l.self.all.items ≡ mixed (map without_records l.fn.self.all.items) l.fn.self.all.items l.node;
  plans : l.plans.items ≡ l.fn.plans.items ++ records_in (take l.node l.fn.self.all.items);
  capacity : vec_capacity l.fn.plans ≤ vec_capacity l.plans;
}
