-- The lines of factors, and why a factor has none. No public clause names these definitions.
use Rattle.std.specs.Prelude.{◌≡◌, ℕ, ◌<◌, List, ◌++◌}
use Rattle.net_parts.specs.Limits.{most_of_all}
use Rattle.net_parts.specs.Numbers.{Net}
use Rattle.arrivals.specs.Scaling.{scaled_whole}
use Rattle.controller_jobs.specs.Controllers.{BringTooMuch, IsScaleLine}
use Rattle.commands.specs.declared.refusals.Named.TheVariants.{Factor}
use Rattle.commands.specs.declared.refusals.Refusal.{Refusal}
use Rattle.commands.specs.declared.refusals.Refusal.TheVariants as refusal

-- a text gained the line of a factor
pub record GainsScaleLine (net : Net) (arriving : ℕ → ℕ → ℕ) (factor : ℕ) (old new : List ℕ) : Type 0 where
  pub line : List ℕ
  pub is : IsScaleLine net arriving factor line
  pub text : new ≡ old ++ line

-- why a factor has no line: scaled by it, the arrivals bring too much; or memory ran out
abbrev pub RefusesFactor : Net → (ℕ → ℕ → ℕ) → ℕ → Refusal → Type 0
RefusesFactor net arriving factor (refusal.Missing Factor) = most_of_all < scaled_whole net factor arriving
RefusesFactor net arriving factor refusal.NoMemory = Unit {0}
RefusesFactor net arriving factor _ = ⊥

-- why several have no table: scaled by one of them, the arrivals bring too much; or memory ran out
abbrev pub RefusesFactors : Net → (ℕ → ℕ → ℕ) → List ℕ → Refusal → Type 0
RefusesFactors net arriving all (refusal.Missing Factor) = BringTooMuch net arriving all
RefusesFactors net arriving all refusal.NoMemory = Unit {0}
RefusesFactors net arriving all _ = ⊥
