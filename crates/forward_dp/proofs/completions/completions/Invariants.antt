use Rattle.std.proofs.Common.{◌≡◌, ◌≤◌, ◌+◌, ◌*◌, length}
use Rattle.forward_dp.specs.Completions.{AreCompletions}
use Rattle.forward_dp.proofs.completions.completions.Given as goal

-- it is known what completes the entries from this place on
abbrev pub invariant-loop-place : goal.invariant-loop-place
invariant-loop-place g l = record {
  all : AreCompletions l.i l.entries l.all.items;
  count : length l.all.items + l.place ≡ length l.entries;
  steps : l.steps + length l.i.plan * l.place ≤ l.initial.steps + length l.i.plan * length l.entries;
}
