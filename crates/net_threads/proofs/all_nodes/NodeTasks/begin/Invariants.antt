use Rattle.std.proofs.Common.{◌≡◌}
use Rattle.node_rounds.specs.Rounds.{AreSamePasses}
use Rattle.net_threads.specs.Tasks.{AreFirst, HasBegunTask, passes_in, settings_in}
use Rattle.net_threads.proofs.all_nodes.NodeTasks.begin.Given as goal

abbrev pub invariant-loop-k : goal.invariant-loop-k
invariant-loop-k g l = record {
  first : AreFirst (HasBegunTask l.round l.world) l.k l.fn.self.all.items l.self.all.items;
  settings : settings_in l.self.all.items ≡ settings_in l.fn.self.all.items;
  same : AreSamePasses (passes_in l.fn.self.all.items) (passes_in l.self.all.items);
}
