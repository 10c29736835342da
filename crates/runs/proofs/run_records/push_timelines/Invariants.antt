use Rattle.std.proofs.Common.{◌≡◌, ◌++◌, vec_capacity}
use Rattle.runs.specs.Ending.{lines_in}
use Rattle.runs.proofs.run_records.push_timelines.Given as goal

abbrev pub invariant-loop-actor : goal.invariant-loop-actor
invariant-loop-actor l = record {
  next : (goal.iterator-loop-actor).can_next l.actor-iterator;
  finite : (goal.iterator-loop-actor).is_finite l.actor-iterator;
  timelines : l.timelines.items ≡ l.initial.timelines.items ++ lines_in l.yielded;
  capacity : vec_capacity l.timelines ≡ vec_capacity l.initial.timelines;
}
