-- How much of a line is kept while its pieces come. No public clause names anything here.
use Rattle.std.specs.Prelude.{◌≡◌, ◌≢◌, ℕ, ◌-◌, ◌<◌, ◌≤◌, ◌⊎◌, List, [], All, length, slice_index_or, take}
use Rattle.outside_world.specs.Source.{IsFront}
use Rattle.outside_world.specs.declared.source.LineRead.{LineRead}
use Rattle.outside_world.specs.declared.source.LineRead.TheVariants.{End, Whole, Part}

-- of the bytes that came so far these are kept: none of none, all, or a front
abbrev pub IsKept : LineRead → List ℕ → ℕ → List ℕ → Type 0
IsKept End came least kept = (came ≡ []) × (kept ≡ [])
IsKept Whole came least kept = kept ≡ came
IsKept Part came least kept = IsFront came least kept

-- a piece of the bytes to come: all up to their first line feed, or all of them where they have none
pub record IsPiece (bytes : List ℕ) (count : ℕ) : Type 0 where
  pub within : count ≤ length bytes
  pub one : All (λ byte. byte ≢ 10) (take (count - 1) bytes)
  pub whole : ((0 < count) × (slice_index_or bytes (count - 1) 0 ≡ 10)) ⊎ (count ≡ length bytes)
