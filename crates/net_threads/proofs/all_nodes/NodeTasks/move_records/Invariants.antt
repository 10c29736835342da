use Rattle.std.proofs.Common.{◌≡◌, ◌≤◌, ◌++◌, map, take, vec_capacity}
use Rattle.intersection_actor.specs.Acting.{without_records}
use Rattle.runs.specs.Ending.{records_in}
use Rattle.runs.proofs.Mixed.{mixed}
use Rattle.net_threads.specs.Tasks.{actors_in, passes_in, settings_in}
use Rattle.net_threads.proofs.all_nodes.NodeTasks.move_records.Given as goal

abbrev pub invariant-loop-k : goal.invariant-loop-k
invariant-loop-k g l = record {
  actors : actors_in l.self.all.items ≡ mixed (map without_records (actors_in l.fn.self.all.items)) (actors_in l.fn.self.all.items) l.k;
  passes : passes_in l.self.all.items ≡ passes_in l.fn.self.all.items;
  settings : settings_in l.self.all.items ≡ settings_in l.fn.self.all.items;
  plans : l.plans.items ≡ l.fn.plans.items ++ records_in (take l.k (actors_in l.fn.self.all.items));
  capacity : vec_capacity l.fn.plans ≤ vec_capacity l.plans;
}
