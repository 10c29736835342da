use Rattle.std.proofs.Common.{◌≡◌, vec_capacity}
use Rattle.net_threads.specs.Tasks.{actors_in}
use Rattle.net_threads.proofs.all_nodes.NodeTasks.into_actors.Given as goal

abbrev pub invariant-loop-task : goal.invariant-loop-task
invariant-loop-task g l = record {
  next : (goal.iterator-loop-task g).can_next l.task-iterator;
  finite : (goal.iterator-loop-task g).is_finite l.task-iterator;
  actors : l.actors.items ≡ actors_in l.yielded;
  capacity : vec_capacity l.actors ≡ vec_capacity l.initial.actors;
}
