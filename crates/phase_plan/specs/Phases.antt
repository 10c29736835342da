-- The phases of an intersection: their bounds, the ring, and why phases are no plan.
use Rattle.std.specs.Prelude.{◌≡◌, ℕ, ◌+◌, ◌-◌, ◌^◌, ◌<◌, ◌≤◌, ◌⊎◌, ◌≢◌, Bool, true, false, not, List, [], ◌++◌, length, All, map, filter, count_by, sum_by, slice_index_or, nat_lt, ◌==◌, ◌||◌, ◌&&◌, if◌then◌else◌}
use Rattle.std.specs.List.{range_with_len}
use Rattle.foundation.specs.Firsts.{IsFirstAt, IsFirstOfRanks}
use Rattle.phase_plan.specs.declared.Phase.{Phase}
use Rattle.phase_plan.specs.declared.Field.{Field}
use Rattle.phase_plan.specs.declared.Marks.{Marks}
use Rattle.phase_plan.specs.declared.Marks.TheVariants as marks
use Rattle.phase_plan.specs.declared.PlanFault.{PlanFault}
use Rattle.phase_plan.specs.declared.PlanFault.TheVariants.{Count, Bound, Skips}
use Rattle.phase_plan.specs.declared.Field.TheVariants.{Least, Greatest, Yellow, Clear, Loss, Wait}

-- the bounds of each time of a phase, in seconds
abbrev pub IsInBounds : Phase → Field → Type 0
IsInBounds p Least = (1 ≤ p.least) × (p.least ≤ 120)
IsInBounds p Greatest = (p.least ≤ p.greatest) × (p.greatest ≤ 240)
IsInBounds p Yellow = (1 ≤ p.yellow) × (p.yellow ≤ 10)
IsInBounds p Clear = p.clear ≤ 10
IsInBounds p Loss = (p.loss ≤ 10) × (p.loss < p.greatest)
IsInBounds p Wait = (1 ≤ p.wait) × (p.wait ≤ 3600)

-- a phase whose times are all in bounds
pub record IsPhase (p : Phase) : Type 0 where
  pub least : IsInBounds p Least
  pub greatest : IsInBounds p Greatest
  pub yellow : IsInBounds p Yellow
  pub clear : IsInBounds p Clear
  pub loss : IsInBounds p Loss
  pub wait : IsInBounds p Wait

-- whether a phase has no mark `skip`
abbrev pub is_unmarked : Phase → Bool
is_unmarked p = not p.skip

-- the phases of a ring: two to four, each in bounds, with any marks
pub record IsRing (plan : List Phase) : Type 0 where
  pub count : (2 ≤ length plan) × (length plan ≤ 4)
  pub phases : All IsPhase plan

-- two to four phases, each in bounds, at least two of them unmarked
pub record IsPlan (plan : List Phase) : Type 0 where
  pub count : (2 ≤ length plan) × (length plan ≤ 4)
  pub phases : All IsPhase plan
  pub ring : 2 ≤ count_by is_unmarked plan

-- the phases of an intersection's own ring: not exactly one of them is unmarked; where none is, the ring is free
pub record IsOwnRing (plan : List Phase) : Type 0 where
  pub ring : IsRing plan
  pub marks : count_by is_unmarked plan ≢ 1

-- the phases of a ring of which all but one are marked, as a round may have them that recalls one phase of a free ring
pub record IsRingOfOne (plan : List Phase) : Type 0 where
  pub ring : IsRing plan
  pub marks : count_by is_unmarked plan ≡ 1

-- whether the ring of these phases is free: all are marked, and any may follow any other
abbrev pub is_free : List Phase → Bool
is_free plan = count_by is_unmarked plan == 0

-- how many of these phases are marked
abbrev pub marks_of : List Phase → Marks
marks_of plan =
    if count_by is_unmarked plan == 0 then marks.All
    else (if count_by is_unmarked plan == 1 then marks.AllButOne else marks.Fewer)

-- what stands where a plan has no phase
abbrev pub no_phase : Phase
no_phase = record { least = 0; greatest = 0; yellow = 0; clear = 0; loss = 0; wait = 0; skip = false }

-- the phase with this number
abbrev pub phase_at : List Phase → ℕ → Phase
phase_at plan k = slice_index_or plan k no_phase

-- the phase with this number is marked
abbrev pub IsMarkedAt : List Phase → ℕ → Type 0
IsMarkedAt plan k = (phase_at plan k).skip ≡ true

-- whether the phase with this number is unmarked: the ring stops there
abbrev pub is_unmarked_at : List Phase → ℕ → Bool
is_unmarked_at plan k = is_unmarked (phase_at plan k)

-- the numbers of the phases strictly between s and j, going up the ring from s; those of all others where j is s
abbrev pub between : List Phase → ℕ → ℕ → List ℕ
between plan s j =
    if nat_lt s j then range_with_len (s + 1) (j - (s + 1))
    else range_with_len (s + 1) (length plan - (s + 1)) ++ range_with_len 0 j

-- the numbers of the phases strictly between s and j, going up the ring from s, at which the ring stops by this test; of all others
-- where j is s
abbrev pub stops_between : List Phase → (ℕ → Bool) → ℕ → ℕ → List ℕ
stops_between plan stops s j = filter stops (between plan s j)

-- the phase after s up the ring, marked or not
abbrev pub one_up : List Phase → ℕ → ℕ
one_up plan s = if nat_lt (s + 1) (length plan) then s + 1 else 0

-- the first phase up the ring from s at which it stops by this test, or the one after s where it stops at no other
abbrev pub first_up : List Phase → (ℕ → Bool) → ℕ → ℕ
first_up plan stops s = slice_index_or (stops_between plan stops s s) 0 (one_up plan s)

-- the first unmarked phase up the ring from s; in a free ring the one after s
abbrev pub next_phase : List Phase → ℕ → ℕ
next_phase plan s = first_up plan (is_unmarked_at plan) s

-- whether the ring, on its way from a green of phase s to one of phase j, is green for all others: s is j, and it stops at none of
-- them, since no phase follows itself
abbrev pub passes_all : List Phase → ℕ → ℕ → Bool
passes_all plan s j = (s == j) && (length (stops_between plan (is_unmarked_at plan) s s) == 0)

-- whether the ring, on its way from a green of phase s to one of phase j, is green for a phase between: it is unmarked, or the ring
-- passes all others
abbrev pub is_passed : List Phase → ℕ → ℕ → ℕ → Bool
is_passed plan s j k = is_unmarked_at plan k || passes_all plan s j

-- the numbers of the phases that the ring passes between s and j
abbrev pub passed_numbers : List Phase → ℕ → ℕ → List ℕ
passed_numbers plan s j = stops_between plan (is_passed plan s j) s j

-- the phases with these numbers
abbrev pub passed : List Phase → ℕ → ℕ → List Phase
passed plan s j = map (λ k. phase_at plan k) (passed_numbers plan s j)

-- how long the ring stays at a phase that it passes
abbrev pub passing : Phase → ℕ
passing p = p.least + p.yellow + p.clear

-- from the end of a green of phase s to the begin of a green of phase j, at the least
abbrev pub switch_time : List Phase → ℕ → ℕ → ℕ
switch_time plan s j = (phase_at plan s).yellow + (phase_at plan s).clear + sum_by passing (passed plan s j)

-- no switch time of a plan is greater
abbrev pub greatest_switch_time : ℕ
greatest_switch_time = 440

-- a row of numbers has the switch times from phase s to each; all are at most the greatest
pub record AreSwitchTimesFrom (plan : List Phase) (s : ℕ) (row : List ℕ) : Type 0 where
  pub room : length row ≡ 4
  pub times : (j : ℕ) → j < length plan → slice_index_or row j 0 ≡ switch_time plan s j
  pub bounds : (j : ℕ) → j < length plan → slice_index_or row j 0 ≤ greatest_switch_time

-- the rows of all phases
pub record AreSwitchTimes (plan : List Phase) (rows : List (List ℕ)) : Type 0 where
  pub room : length rows ≡ 4
  pub each : (s : ℕ) → s < length plan → AreSwitchTimesFrom plan s (slice_index_or rows s [])

-- the times of a phase are u32, as those of the code are
pub record HasU32Times (p : Phase) : Type 0 where
  pub least : p.least < 2 ^ 32
  pub greatest : p.greatest < 2 ^ 32
  pub yellow : p.yellow < 2 ^ 32
  pub clear : p.clear < 2 ^ 32
  pub loss : p.loss < 2 ^ 32
  pub wait : p.wait < 2 ^ 32

-- the order in which the fields are judged
abbrev pub rank : Field → ℕ
rank Least = 0
rank Greatest = 1
rank Yellow = 2
rank Clear = 3
rank Loss = 4
rank Wait = 5

-- the first field of the phase that is out of bounds
abbrev pub IsFirstFault : Phase → Field → Type 0
IsFirstFault p field = IsFirstOfRanks rank (IsInBounds p) field

-- why these phases are no plan: their number, or else the first phase and then the first field out of bounds, or else that
-- fewer than two are unmarked
abbrev pub IsPlanFault : List Phase → PlanFault → Type 0
IsPlanFault plan (Count n) = (n ≡ length plan) × ((length plan < 2) ⊎ (4 < length plan))
IsPlanFault plan (Bound k field) =
    (2 ≤ length plan) × (length plan ≤ 4) × IsFirstAt IsPhase (λ p. IsFirstFault p field) plan k
IsPlanFault plan Skips = (2 ≤ length plan) × (length plan ≤ 4) × All IsPhase plan × (count_by is_unmarked plan < 2)

-- why these phases are no ring of an intersection: as for a plan, but that none may be unmarked
abbrev pub IsOwnRingFault : List Phase → PlanFault → Type 0
IsOwnRingFault plan (Count n) = IsPlanFault plan (Count n)
IsOwnRingFault plan (Bound k field) = IsPlanFault plan (Bound k field)
IsOwnRingFault plan Skips = IsRing plan × (count_by is_unmarked plan ≡ 1)

-- why these phases are no ring of which all but one are marked: as for a plan, but that exactly one has to be unmarked
abbrev pub IsRingOfOneFault : List Phase → PlanFault → Type 0
IsRingOfOneFault plan (Count n) = IsPlanFault plan (Count n)
IsRingOfOneFault plan (Bound k field) = IsPlanFault plan (Bound k field)
IsRingOfOneFault plan Skips = IsRing plan × (count_by is_unmarked plan ≢ 1)

-- why these phases are no ring at all: as for a plan, but that any may be marked
abbrev pub IsRingFault : List Phase → PlanFault → Type 0
IsRingFault plan (Count n) = IsPlanFault plan (Count n)
IsRingFault plan (Bound k field) = IsPlanFault plan (Bound k field)
IsRingFault plan Skips = ⊥
