-- The switch times of a small free ring, and of one of which one phase is recalled, worked out by hand and computed here from the definitions.
use Rattle.std.proofs.Common.{◌≡◌, ℕ, true, false, List, [], ◌∷◌, refl}
use Rattle.phase_plan.specs.declared.Phase.{Phase}
use Rattle.phase_plan.specs.declared.Marks.TheVariants as marks
use Rattle.phase_plan.specs.Phases.{is_free, marks_of, next_phase, passed_numbers, switch_time}

-- a marked phase of these times
abbrev phase : ℕ → ℕ → ℕ → Phase
phase least yellow clear = record { least = least; greatest = 30; yellow = yellow; clear = clear; loss = 2; wait = 120; skip = true }

-- three phases, whose yellow and clear times are 5, 6 and 7 seconds together, and whose rows in a ring take 10, 12 and 14
abbrev three : List Phase
three = phase 5 3 2 ∷ phase 6 4 2 ∷ phase 7 3 4 ∷ []

free : is_free three ≡ true
free = refl

-- to another phase, up the ring or down: what the phase takes itself

up : switch_time three 0 1 ∷ switch_time three 0 2 ∷ switch_time three 1 2 ∷ [] ≡ 5 ∷ 5 ∷ 6 ∷ []
up = refl

down : switch_time three 1 0 ∷ switch_time three 2 0 ∷ switch_time three 2 1 ∷ [] ≡ 6 ∷ 7 ∷ 7 ∷ []
down = refl

-- to itself: through all others, up the ring

again : switch_time three 0 0 ∷ switch_time three 1 1 ∷ switch_time three 2 2 ∷ [] ≡ 31 ∷ 30 ∷ 29 ∷ []
again = refl

through : passed_numbers three 1 1 ≡ 2 ∷ 0 ∷ []
through = refl

-- with nothing called, it turns in the order of the phases

turns : next_phase three 0 ∷ next_phase three 1 ∷ next_phase three 2 ∷ [] ≡ 1 ∷ 2 ∷ 0 ∷ []
turns = refl

-- the same phases, the second without its mark

abbrev but_one : List Phase
but_one = phase 5 3 2 ∷ record (phase 6 4 2) { skip = false } ∷ phase 7 3 4 ∷ []

all_but_one : marks_of but_one ≡ marks.AllButOne
all_but_one = refl

-- past it through its green of 12 seconds, from a phase to itself too; to it, and where it is not between, what the phase takes itself

past : switch_time but_one 0 2 ∷ switch_time but_one 0 0 ∷ switch_time but_one 2 2 ∷ [] ≡ 17 ∷ 17 ∷ 19 ∷ []
past = refl

beside : switch_time but_one 0 1 ∷ switch_time but_one 1 0 ∷ switch_time but_one 2 0 ∷ [] ≡ 5 ∷ 6 ∷ 7 ∷ []
beside = refl

-- from it to itself: through all others

round : switch_time but_one 1 1 ≡ 30
round = refl

-- with nothing called, it turns to it, and from it to the one after it

turns_past : next_phase but_one 0 ∷ next_phase but_one 1 ∷ next_phase but_one 2 ∷ [] ≡ 1 ∷ 2 ∷ 1 ∷ []
turns_past = refl
