use Rattle.std.proofs.Common.{◌≡◌, ℕ, ◌+◌, get_or, drop, take, Some}
use Rattle.std.specs.Option.{option_map}
use Rattle.schedule_meaning.specs.Instances.{counts_of}
use Rattle.schedule_meaning.specs.Faults.{reached_from}
use Rattle.schedule_meaning.specs.Timing.{IsUnderWay, times_of, timing, timed_from, onward}
use Rattle.schedule_meaning.proofs.replays.walk.Given as goal

-- the sequence is on its way, and what is timed so far and what follows is the whole
abbrev pub invariant-loop-index : goal.invariant-loop-index
invariant-loop-index g l = record {
  way : IsUnderWay l.i l.left l.head l.delay;
  times : (k : ℕ) → times_of k (drop l.index l.seq) ≡ get_or l.left k 0;
  timing : timing l.i l.seq ≡ option_map (onward l.delay) (timed_from l.i l.left l.head (drop l.index l.seq));
  reached : reached_from l.i (counts_of l.i.lists) l.i.head (take l.index l.seq) ≡ Some (l.left, l.head);
  steps : l.steps ≡ l.fn.steps + l.index;
}
