use Rattle.std.proofs.Common.{◌≡◌, ℕ, ◌<◌, length}
use Rattle.schedule_meaning.specs.Instances.{list_at}
use Rattle.schedule_meaning.specs.Timing.{times_of}
use Rattle.schedule_meaning.proofs.replays.wrong_count.Given as goal

-- the phases so far are named as often as they have clusters
abbrev pub invariant-loop-phase : goal.invariant-loop-phase
invariant-loop-phase l = (k : ℕ) → k < l.phase-counter → times_of k l.seq ≡ length (list_at l.i.lists k)
