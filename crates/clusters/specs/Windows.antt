-- The window: the platoons that one planning takes up.
use Rattle.std.specs.Prelude.{◌≡◌, ℕ, ◌+◌, ◌<◌, ◌≤◌, List, length, map, slice_index, sum, take}
use Rattle.std.specs.List.Sorted.{IsStrictlyIncreasing}
use Rattle.net_parts.specs.Limits.{most_look}
use Rattle.switch_rules.specs.Arriving.{ComesFirst}
use Rattle.switch_rules.specs.Bounds.{most_clusters, most_orders}
use Rattle.switch_rules.specs.Orders.{orders}
use Rattle.clusters.specs.declared.vehicle_groups.Platoon.{Platoon}
use Rattle.clusters.specs.declared.vehicle_groups.Window.{Window}
use Rattle.clusters.specs.Platoons.{platoons_at}

-- when platoons arrive
abbrev pub arrivals : List Platoon → List ℕ
arrivals list = map (λ p. p.cluster.arr) list

-- when the platoon with this place in the list of phase k arrives
abbrev pub arrival : List (List Platoon) → ℕ → ℕ → ℕ
arrival lists k place = slice_index (arrivals (platoons_at lists k)) place

-- The first `counts` of each phase are a front of all platoons: each of them comes before each of the others.
pub record IsFront (lists : List (List Platoon)) (counts : List ℕ) : Type 0 where
  pub phases : length counts ≡ length lists
  pub there : (k : ℕ) → slice_index counts k ≤ length (platoons_at lists k)
  pub before : (j k taken waiting : ℕ) → taken < slice_index counts j → slice_index counts k ≤ waiting
      → waiting < length (platoons_at lists k)
      → ComesFirst (arrival lists j taken) j (arrival lists k waiting) k

-- these counts of clusters can be planned at once: at most 40 in all, and in at most 50,000 orders
pub record ArePlannableCounts (counts : List ℕ) : Type 0 where
  pub clusters : sum counts ≤ most_clusters
  pub orders : length (orders counts) ≤ most_orders

-- how many platoons each phase has
abbrev pub counts_of : List (List Platoon) → List ℕ
counts_of lists = map length lists

-- these counts are the longest front that can be planned at once
pub record IsLongest (lists : List (List Platoon)) (counts : List ℕ) : Type 0 where
  pub front : IsFront lists counts
  pub small : ArePlannableCounts counts
  pub longest : (more : List ℕ) → IsFront lists more → ArePlannableCounts more → sum more ≤ sum counts

-- The window: of all platoons, in the order of their arrival, as many of the first as can be planned at once, divided by phase. The
-- others wait, and are counted.
pub record IsWindow (lists : List (List Platoon)) (window : Window) : Type 0 where
  pub longest : IsLongest lists (counts_of window.lists)
  pub taken : (k : ℕ) → platoons_at window.lists k ≡ take (slice_index (counts_of window.lists) k) (platoons_at lists k)
  pub waiting : window.waiting + sum (counts_of window.lists) ≡ sum (counts_of lists)

-- a list of platoons that can be cut to a window: at most 180, each later than the one before it
pub record IsRising (list : List Platoon) : Type 0 where
  pub few : length list ≤ most_look
  pub rising : IsStrictlyIncreasing (arrivals list)
