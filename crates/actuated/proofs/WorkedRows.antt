-- Lines of the controller, worked out by hand and computed here from the definitions.
use Rattle.std.proofs.Common.{◌≡◌, ℕ, true, false, List, [], ◌∷◌, refl}
use Rattle.phase_plan.specs.declared.Phase.{Phase}
use Rattle.switch_rules.specs.declared.Head.{Head}
use Rattle.control_flow.specs.declared.greens.Green.{Green}
use Rattle.actuated.specs.Calls.{act_line}

abbrev usual : Phase
usual = record { least = 5; greatest = 30; yellow = 3; clear = 2; loss = 2; wait = 120; skip = false }

-- three phases, the second one marked
abbrev three : List Phase
three = usual ∷ record usual { skip = true } ∷ usual ∷ []

-- the first phase is green since second 0, and its time is spent up to second 6
abbrev head : Head
head = record { phase = 0; since = 0; at = 6; fresh = false }

abbrev green : ℕ → ℕ → ℕ → Green
green phase from to = record { phase = phase; from = from; to = to }

-- the marked phase is called: the green ends, and the ring stops there
marked-called : act_line three head (0 ∷ 500 ∷ 0 ∷ []) 20 ≡ green 0 0 6 ∷ green 1 11 16 ∷ green 2 21 26 ∷ []
marked-called = refl

-- another one is: the ring passes over the marked one
other-called : act_line three head (0 ∷ 0 ∷ 500 ∷ []) 20 ≡ green 0 0 6 ∷ green 2 11 16 ∷ green 0 21 26 ∷ []
other-called = refl

-- the own phase is called too: the green is held
own-called : act_line three head (500 ∷ 0 ∷ 500 ∷ []) 20 ≡ green 0 0 30 ∷ []
own-called = refl

-- nothing is called: the green is held
none-called : act_line three head (0 ∷ 0 ∷ 0 ∷ []) 20 ≡ green 0 0 30 ∷ []
none-called = refl

-- a free ring of three phases: what is called comes at once, and with no other call the phase after the present one
abbrev free : List Phase
free = record usual { skip = true } ∷ record usual { skip = true } ∷ record usual { skip = true } ∷ []

third-called : act_line free head (0 ∷ 0 ∷ 500 ∷ []) 30 ≡ green 0 0 6 ∷ green 2 11 16 ∷ green 0 21 26 ∷ green 2 31 36 ∷ []
third-called = refl

two-called : act_line free head (0 ∷ 500 ∷ 500 ∷ []) 30 ≡ green 0 0 6 ∷ green 1 11 16 ∷ green 2 21 26 ∷ green 1 31 36 ∷ []
two-called = refl
