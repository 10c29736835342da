use Rattle.std.proofs.Common.{◌≡◌, ◌≤◌, take}
use Rattle.link_boards.specs.Passes.{highest}
use Rattle.net_threads.specs.Tasks.{actors_in, passes_in, settings_in}
use Rattle.net_threads.proofs.all_nodes.NodeTasks.meeting.Given as goal

abbrev pub invariant-loop-k : goal.invariant-loop-k
invariant-loop-k g l = record {
  actors : actors_in l.self.all.items ≡ actors_in l.fn.self.all.items;
  passes : passes_in l.self.all.items ≡ passes_in l.fn.self.all.items;
  settings : settings_in l.self.all.items ≡ settings_in l.fn.self.all.items;
  boards : l.meeting.boards ≡ l.boards.id;
  most : l.meeting.known ≤ highest (passes_in l.fn.self.all.items);
  known : highest (take l.k (passes_in l.fn.self.all.items)) ≤ l.meeting.known;
}
