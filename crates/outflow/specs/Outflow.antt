-- What a node tells of an exit link: when the vehicles that it has planned to serve will come to that link's end.
use Rattle.std.specs.Prelude.{ℕ, ◌+◌, ◌-◌, nat_lt, if◌then◌else◌, List, [], ◌∷◌, filter, length, map, slice_index, slice_index_or, sum_by}
use Rattle.std.specs.List.{range_with_len}
use Rattle.board_model.specs.declared.forecasts.Row.{Row}
use Rattle.phase_plan.specs.declared.Phase.{Phase}
use Rattle.switch_rules.specs.Orders.{one_less}
use Rattle.switch_rules.specs.Sequences.{AreNextServings, no_cluster}
use Rattle.switch_rules.specs.declared.Head.{Head}
use Rattle.switch_rules.specs.declared.Served.{Served}
use Rattle.net_parts.specs.Numbers.{Net}
use Rattle.net_parts.specs.Outline.{link_at, turns_at}
use Rattle.road_net.specs.Joins.{split_of}
use Rattle.clusters.specs.declared.vehicle_groups.Part.{Part}
use Rattle.clusters.specs.declared.vehicle_groups.Platoon.{Platoon}
use Rattle.clusters.specs.Platoons.{platoons_at}
use Rattle.clusters.specs.Sound.{cluster_lists}
use Rattle.clusters.specs.Windows.{counts_of}

-- These are the servings of these phases one after another, by some plan and from some head: each is of the next cluster of its phase.
-- It holds of the servings of a feasible sequence, and of none at all.
pub record AreServed (lists : List (List Platoon)) (phases : List ℕ) (served : List Served) : Type 0 where
  pub plan : List Phase
  pub head : Head
  pub servings : AreNextServings plan (cluster_lists lists) (counts_of lists) head phases served

-- what stands where a list has no platoon
abbrev pub no_platoon : Platoon
no_platoon = record { cluster = no_cluster; parts = [] }

-- the next platoon of phase k, where `left` of each phase are left
abbrev pub next_platoon : List (List Platoon) → List ℕ → ℕ → Platoon
next_platoon lists left k =
    slice_index_or (platoons_at lists k) (length (platoons_at lists k) - slice_index left k) no_platoon

-- a platoon that is served, and the second at which it starts
pub record Departure : Type 0 where
  pub platoon : Platoon
  pub start : ℕ

-- the departures of these servings: each is of the next platoon of its phase, where `left` of each phase are left
abbrev pub departures : List (List Platoon) → List ℕ → List ℕ → List Served → List Departure
departures lists left [] served = []
departures lists left (k ∷ ks) [] = []
departures lists left (k ∷ ks) (s ∷ ss) =
    record { platoon = next_platoon lists left k; start = s.start } ∷ departures lists (one_less left k) ks ss

-- What of a part comes to the end of the exit in second d, where its platoon starts at this second and the exit takes `travel`
-- seconds: of what leaves its link so long before, what turns into the exit.
abbrev pub part_coming : Net → ℕ → ℕ → ℕ → ℕ → Part → ℕ
part_coming net exit travel d start part =
    if nat_lt d (start + travel) then 0
    else split_of (turns_at net part.link) (slice_index part.amounts (d - (start + travel))) exit

-- what of all parts of a departure comes to the end of the exit in second d
abbrev pub departure_coming : Net → ℕ → ℕ → ℕ → Departure → ℕ
departure_coming net exit travel d departure =
    sum_by (part_coming net exit travel d departure.start) departure.platoon.parts

-- what of all departures comes to the end of the exit in second d
abbrev pub coming_in : Net → ℕ → List Departure → ℕ → ℕ
coming_in net exit leave d = sum_by (departure_coming net exit (link_at net exit).travel d) leave

-- the rows of the seconds in which something comes
abbrev pub positive_rows : (ℕ → ℕ) → List ℕ → List Row
positive_rows amount seconds =
    filter (λ row. nat_lt 0 row.amount) (map (λ d. record { second = d; amount = amount d }) seconds)

-- the forecast of these departures: a row for each second before now + look in which something comes
unfoldable pub told_forecast : Net → ℕ → ℕ → List Departure → List Row
told_forecast net exit now leave = positive_rows (coming_in net exit leave) (range_with_len 0 (now + net.run.look))
