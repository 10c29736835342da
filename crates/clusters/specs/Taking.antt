-- What the steps of taking platoons into a window find: `counts` of each phase have been taken. No public clause names these.
use Rattle.std.specs.Prelude.{◌≡◌, ℕ, ◌<◌, ◌≤◌, List, Option, Some, None, length, slice_index, take}
use Rattle.switch_rules.specs.Arriving.{ComesFirst}
use Rattle.clusters.specs.declared.vehicle_groups.Platoon.{Platoon}
use Rattle.clusters.specs.Platoons.{platoons_at}
use Rattle.clusters.specs.Windows.{arrival, arrivals}

-- when the next platoon of a list arrives; nothing where all have been taken
abbrev pub IsNextArrival : List Platoon → ℕ → Option ℕ → Type 0
IsNextArrival list count None = length list ≤ count
IsNextArrival list count (Some arr) = (count < length list) × (arr ≡ slice_index (arrivals list) count)

-- of the first i phases, the platoon that comes first of those not taken: when it arrives, and its phase
pub record IsFirstAmong (lists : List (List Platoon)) (counts : List ℕ) (i : ℕ) (first : ℕ × ℕ) : Type 0 where
  pub phase : first.1 < i
  pub waits : slice_index counts first.1 < length (platoons_at lists first.1)
  pub arr : first.0 ≡ arrival lists first.1 (slice_index counts first.1)
  pub comes : (k : ℕ) → k < i → slice_index counts k < length (platoons_at lists k)
      → ComesFirst first.0 first.1 (arrival lists k (slice_index counts k)) k

-- of the first i phases, the platoon that comes first of those not taken; none where none of them has one left
abbrev pub IsFirstOf : List (List Platoon) → List ℕ → ℕ → Option (ℕ × ℕ) → Type 0
IsFirstOf lists counts i None = (k : ℕ) → k < i → length (platoons_at lists k) ≤ slice_index counts k
IsFirstOf lists counts i (Some first) = IsFirstAmong lists counts i first

-- the earlier of what was first and a platoon of a later phase
abbrev pub IsEarlier : Option (ℕ × ℕ) → ℕ → ℕ → ℕ × ℕ → Type 0
IsEarlier None arr phase result = result ≡ (arr, phase)
IsEarlier (Some first) arr phase result = (first.0 ≤ arr → result ≡ first) × (arr < first.0 → result ≡ (arr, phase))

-- each list is as much of the front of another one as was taken
pub record AreFronts (lists : List (List Platoon)) (counts : List ℕ) (fronts : List (List Platoon)) : Type 0 where
  pub count : length fronts ≡ length lists
  pub each : (k : ℕ) → platoons_at fronts k ≡ take (slice_index counts k) (platoons_at lists k)
