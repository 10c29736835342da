use Rattle.std.proofs.Common.{◌≡◌, ◌++◌, take, drop}
use Rattle.net_threads.specs.Tasks.{actors_in, passes_in, settings_in}
use Rattle.net_threads.proofs.all_nodes.NodeTasks.trade.Given as goal

abbrev pub invariant-loop-k : goal.invariant-loop-k
invariant-loop-k g l = record {
  actors : actors_in l.self.all.items ≡ actors_in l.fn.self.all.items;
  settings : settings_in l.self.all.items ≡ settings_in l.fn.self.all.items;
  taken : passes_in l.self.all.items ≡ take l.k l.fn.passes ++ drop l.k (passes_in l.fn.self.all.items);
  given : l.passes ≡ take l.k (passes_in l.fn.self.all.items) ++ drop l.k l.fn.passes;
}
