-- No public clause names these: the state of the search for the cluster that comes next.
use Rattle.std.specs.Prelude.{◌≡◌, ℕ, ◌<◌, ◌≤◌, List, Option, Some, None, length, slice_index}
use Rattle.switch_rules.specs.Arriving.{ComesFirst}
use Rattle.switch_rules.specs.declared.Cluster.{Cluster}
use Rattle.schedule_meaning.specs.Instances.{Problem, cluster_at, list_at}
use Rattle.pruned_dp.specs.Arrivals.{arrival}

-- when the next cluster of a list arrives; nothing where all are served
abbrev pub IsNextArrival : List Cluster → ℕ → Option ℕ → Type 0
IsNextArrival list served None = length list ≤ served
IsNextArrival list served (Some arr) = (served < length list) × (arr ≡ (cluster_at list served).arr)

-- of the first n phases, the next cluster that comes first: when it arrives, and its phase
pub record IsFirstAmong (p : Problem) (counts : List ℕ) (n : ℕ) (first : ℕ × ℕ) : Type 0 where
  pub phase : first.1 < n
  pub some : slice_index counts first.1 < length (list_at p.lists first.1)
  pub arr : first.0 ≡ arrival p first.1 (slice_index counts first.1)
  pub comes : (k : ℕ) → k < n → slice_index counts k < length (list_at p.lists k)
      → ComesFirst first.0 first.1 (arrival p k (slice_index counts k)) k

-- of the first n phases, the next cluster that comes first; none where none of them has one left
abbrev pub IsFirstOf : Problem → List ℕ → ℕ → Option (ℕ × ℕ) → Type 0
IsFirstOf p counts n None = (k : ℕ) → k < n → length (list_at p.lists k) ≤ slice_index counts k
IsFirstOf p counts n (Some first) = IsFirstAmong p counts n first

-- the earlier of what was first and the cluster of a later phase
abbrev pub IsEarlier : Option (ℕ × ℕ) → ℕ → ℕ → ℕ × ℕ → Type 0
IsEarlier None arr phase result = result ≡ (arr, phase)
IsEarlier (Some first) arr phase result = (first.0 ≤ arr → result ≡ first) × (arr < first.0 → result ≡ (arr, phase))
