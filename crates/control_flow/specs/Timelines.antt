-- The timeline of a plan of servings, and that of no plan.
use Rattle.std.specs.Prelude.{◌≡◌, ℕ, zero, suc, Bool, true, ◌+◌, ◌-◌, ◌<◌, ◌≤◌, max, min, nat_lt, if◌then◌else◌, List, [], ◌∷◌, ◌++◌, ◌||◌, length, slice_index, Ok}
use Rattle.phase_plan.specs.Phases.{first_up, is_unmarked_at, passed_numbers, phase_at, passing, switch_time}
use Rattle.phase_plan.specs.declared.Phase.{Phase}
use Rattle.switch_rules.specs.Serving.{IsCluster, earliest_end, head_after, serving}
use Rattle.switch_rules.specs.declared.Head.{Head}
use Rattle.switch_rules.specs.declared.Cluster.{Cluster}
use Rattle.switch_rules.specs.declared.Served.{Served}
use Rattle.control_flow.specs.Greens.{row_at}
use Rattle.control_flow.specs.declared.greens.Green.{Green}

-- a serving of phase k from a head: that of a cluster within its bounds, which is fit
pub record IsServingOf (plan : List Phase) (head : Head) (k : ℕ) (s : Served) : Type 0 where
  pub phase : k < length plan
  pub cluster : Cluster
  pub bounds : IsCluster cluster
  pub fit : serving plan head k cluster ≡ Ok (s, head_after k s)

-- these are servings of these phases, each from the head after the one before it
abbrev pub AreServings : List Phase → Head → List ℕ → List Served → Type 0
AreServings plan head [] [] = Unit {0}
AreServings plan head [] (s ∷ ss) = ⊥
AreServings plan head (k ∷ ks) [] = ⊥
AreServings plan head (k ∷ ks) (s ∷ ss) = IsServingOf plan head k s × AreServings plan (head_after k s) ks ss

-- some row is the green of a serving of phase k: it begins with that green, and does not end before the serving
pub record IsGreenOf (rows : List Green) (k : ℕ) (s : Served) : Type 0 where
  pub index : ℕ
  pub below : index < length rows
  pub phase : (row_at rows index).phase ≡ k
  pub begin : (row_at rows index).from ≡ s.green
  pub finish : s.finish ≤ (row_at rows index).to

-- each of the servings of these phases has its green
abbrev pub HasGreens : List Green → List ℕ → List Served → Type 0
HasGreens rows [] served = Unit {0}
HasGreens rows (k ∷ ks) [] = Unit {0}
HasGreens rows (k ∷ ks) (s ∷ ss) = IsGreenOf rows k s × HasGreens rows ks ss

-- greens of these phases, each of its least length, the first from this second, each next one after yellow and all-red
abbrev pub shortest_greens : List Phase → ℕ → List ℕ → List Green
shortest_greens plan from [] = []
shortest_greens plan from (k ∷ ks) =
    record { phase = k; from = from; to = from + (phase_at plan k).least }
    ∷ shortest_greens plan (from + passing (phase_at plan k)) ks

-- when the next green can begin after greens of these phases, each of its least length, the first from this second
abbrev pub begin_after : List Phase → ℕ → List ℕ → ℕ
begin_after plan from [] = from
begin_after plan from (k ∷ ks) = begin_after plan (from + passing (phase_at plan k)) ks

-- when the green of a head ends for a wanted green of phase j that begins at b: as late as it may
abbrev pub last_end : List Phase → Head → ℕ → ℕ → ℕ
last_end plan head j b =
    max (earliest_end plan head)
    (min (head.since + (phase_at plan head.phase).greatest) (b - switch_time plan head.phase j))

-- the green of a head up to this second, and after it greens of these phases, each of its least length
abbrev pub left_for : List Phase → Head → ℕ → List ℕ → List Green
left_for plan head to ks =
    record { phase = head.phase; from = head.since; to = to }
    ∷ shortest_greens plan (to + (phase_at plan head.phase).yellow + (phase_at plan head.phase).clear) ks

-- the green after one of phase s up to this second: of the first phase up the ring at which it stops by this test, or of the one
-- after s where it stops at no other, as early as it may be, of its least length
abbrev pub green_after : List Phase → (ℕ → Bool) → ℕ → ℕ → Green
green_after plan stops s to =
    let k = first_up plan stops s in
    let from = to + (phase_at plan s).yellow + (phase_at plan s).clear in
    record { phase = k; from = from; to = from + (phase_at plan k).least }

-- the ring turns after a green of phase s up to this second, until a green ends after `until`; at most this many greens
abbrev pub turning : List Phase → (ℕ → Bool) → ℕ → ℕ → ℕ → ℕ → List Green
turning plan stops zero until s to = []
turning plan stops (suc most) until s to =
    if nat_lt until to then []
    else green_after plan stops s to
    ∷ turning plan stops most until (green_after plan stops s to).phase (green_after plan stops s to).to

-- the green of a head up to this second, and then the ring turns until a green ends after `until`
abbrev pub turned : List Phase → (ℕ → Bool) → Head → ℕ → ℕ → List Green
turned plan stops head to until =
    record { phase = head.phase; from = head.since; to = to } ∷ turning plan stops (until + 1) until head.phase to

-- whether a phase is called, by a number for each phase: it has one above 0
abbrev pub calls_for : List ℕ → ℕ → Bool
calls_for calls k = nat_lt 0 (slice_index calls k)

-- whether the ring stops at a phase: it is unmarked, or called
abbrev pub stops_at : List Phase → List ℕ → ℕ → Bool
stops_at plan calls k = is_unmarked_at plan k || calls_for calls k

-- the timeline of servings from a head: a green that goes on is one row; a green that is left for a new one ends as late
-- as it may, and the ring passes to the new one; the last green is held as long as it may, and then the ring turns, stopping
-- at unmarked phases, and in a free ring at each
abbrev pub line_of : List Phase → Head → List ℕ → List Served → ℕ → List Green
line_of plan head [] served until =
    turned plan (is_unmarked_at plan) head (head.since + (phase_at plan head.phase).greatest) until
line_of plan head (k ∷ ks) [] until =
    turned plan (is_unmarked_at plan) head (head.since + (phase_at plan head.phase).greatest) until
line_of plan head (k ∷ ks) (s ∷ ss) until =
    if s.kept then line_of plan (head_after k s) ks ss until
    else left_for plan head (last_end plan head k s.green) (passed_numbers plan head.phase k)
    ++ line_of plan (head_after k s) ks ss until

-- the timeline from a head with no plan: its green ends as early as it may, and then the ring turns, with a green of least length
-- for each unmarked phase, in a free ring for each, until a green ends after second `until`
abbrev pub rotation_of : List Phase → Head → ℕ → List Green
rotation_of plan head until = turned plan (is_unmarked_at plan) head (earliest_end plan head) until

-- the head of every signal at second 0
abbrev pub first_head : Head
first_head = record { phase = 0; since = 0; at = 0; fresh = true }
