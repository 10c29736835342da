use Rattle.std.proofs.Common.{◌≡◌, ◌+◌, length, vec_len}
use Rattle.net_threads.specs.Tasks.{AreTasksOf, actors_in}
use Rattle.net_threads.proofs.set_up.node_tasks.Given as goal

abbrev pub invariant-loop-actor : goal.invariant-loop-actor
invariant-loop-actor g l = record {
  next : (goal.iterator-loop-actor g).can_next l.actor-iterator;
  finite : (goal.iterator-loop-actor g).is_finite l.actor-iterator;
  actors : actors_in l.tasks.items ≡ l.yielded;
  of : AreTasksOf l.net l.boards l.tasks.items;
  planners : vec_len l.planners + length l.yielded ≡ vec_len l.fn.actors;
  passes : vec_len l.passes + length l.yielded ≡ vec_len l.fn.actors;
}
