-- Why there is no list of what a sequence serves.
use Rattle.std.specs.Prelude.{◌≡◌, ◌≢◌, ℕ, List, None}
use Rattle.schedule_meaning.specs.Instances.{Problem}
use Rattle.schedule_meaning.specs.Timing.{timed}
use Rattle.schedule_meaning.specs.Faults.{IsSeqFault}
use Rattle.schedule_meaning.specs.declared.listing.ServingsFault.{ServingsFault}
use Rattle.schedule_meaning.specs.declared.listing.ServingsFault.TheVariants.{Seq, NoMemory}

-- why there is no list of what a sequence serves: it is not feasible, and this is its first fault; or it is feasible,
-- and memory ran out
abbrev pub IsServingsFault : Problem → List ℕ → ServingsFault → Type 0
IsServingsFault p sequence (Seq fault) = (timed p sequence ≡ None) × IsSeqFault p sequence fault
IsServingsFault p sequence NoMemory = timed p sequence ≢ None
