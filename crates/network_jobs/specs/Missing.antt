-- Why nothing was planned by a node in a round. No public clause names anything here.
use Rattle.std.specs.Prelude.{ℕ, List}
use Rattle.net_parts.specs.Numbers.{Net}
use Rattle.commands.specs.declared.refusals.Refusal.{Refusal}
use Rattle.commands.specs.declared.refusals.Refusal.TheVariants as refusal
use Rattle.network_jobs.specs.Meanings.{Misses}

-- the words name what is not in the network; or memory ran out
abbrev pub IsWithoutPlan : Net → List ℕ → ℕ → Refusal → Type 0
IsWithoutPlan net node round (refusal.Missing what) = Misses net node round what
IsWithoutPlan net node round refusal.NoMemory = Unit {0}
IsWithoutPlan net node round _ = ⊥
