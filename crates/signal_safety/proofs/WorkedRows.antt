-- Worked rows of docs/RULES.md, "Conflicts": `left` is green in its home, phase 1, and in phase 0 also.
use Rattle.std.proofs.Common.{◌≡◌, ℕ, true, false, List, [], ◌∷◌, Some, None, refl}
use Rattle.phase_plan.specs.declared.Phase.{Phase}
use Rattle.net_parts.specs.Numbers.{Net}
use Rattle.net_parts.specs.Outline.{is_green_in}
use Rattle.net_parts.specs.declared.roads.Link.{Link}
use Rattle.control_flow.specs.declared.greens.Green.{Green}
use Rattle.control_flow.specs.declared.greens.Sign.TheVariants as signs
use Rattle.control_flow.specs.Signs.{sign_at}
use Rattle.signal_safety.specs.Safe.{clearance_at, is_green_at}

phase : Phase
phase = record { least = 5; greatest = 30; yellow = 3; clear = 2; loss = 2; wait = 120; skip = false }

link : ℕ → Link
link home = record { from = None; to = Some 0; travel = 10; sat = 500; weight = 1; phase = home; yield_sat = 0; walk = None }

-- through 0, left 1 and cross 2 end at node 0; link 3 leaves it
net : Net
unfolding phase link
net = record {
  run = record { step = 5; look = 60; gap = 2; rounds = 6; split = false; age = None; hold = None; act_step = None; rate = None; recall = None };
  node_names = (97 ∷ []) ∷ [];
  plans = (phase ∷ phase ∷ phase ∷ []) ∷ [];
  phase_links = ((0 ∷ []) ∷ (1 ∷ []) ∷ (2 ∷ []) ∷ []) ∷ [];
  also_links = ((1 ∷ []) ∷ [] ∷ [] ∷ []) ∷ [];
  link_names = (98 ∷ []) ∷ (99 ∷ []) ∷ (100 ∷ []) ∷ (101 ∷ []) ∷ [];
  links = link 0 ∷ link 1 ∷ link 2 ∷ record { from = Some 0; to = None; travel = 5; sat = 500; weight = 1; phase = 0; yield_sat = 0; walk = None } ∷ [];
  turns = (record { exit = 3; share = 1000 } ∷ []) ∷ (record { exit = 3; share = 1000 } ∷ []) ∷ (record { exit = 3; share = 1000 } ∷ []) ∷ [] ∷ [];
  yields = [] ∷ [] ∷ [] ∷ [] ∷ [];
  conflicts = (1, 2) ∷ [];
}

rows : List Green
rows = record { phase = 0; from = 0; to = 10 } ∷ record { phase = 1; from = 15; to = 20 } ∷ record { phase = 2; from = 25; to = 30 } ∷ []

lines : ℕ → List Green
unfolding rows
lines node = rows

-- the greens of left
left-in-0 : is_green_in net 1 0 ≡ true
unfolding net phase link
left-in-0 = refl

left-in-1 : is_green_in net 1 1 ≡ true
unfolding net phase link
left-in-1 = refl

left-not-in-2 : is_green_in net 1 2 ≡ false
unfolding net phase link
left-not-in-2 = refl

through-not-in-1 : is_green_in net 0 1 ≡ false
unfolding net phase link
through-not-in-1 = refl

-- the signs
first-green : sign_at rows 9 ≡ signs.On 0 0
unfolding rows
first-green = refl

first-change : sign_at rows 10 ≡ signs.Change 0 1
unfolding rows
first-change = refl

after-last : sign_at rows 30 ≡ signs.Dark
unfolding rows
after-last = refl

-- through is green up to 9
through-on : is_green_at net lines 0 9 ≡ true
unfolding net phase link lines rows
through-on = refl

through-off : is_green_at net lines 0 10 ≡ false
unfolding net phase link lines rows
through-off = refl

-- left goes on through the change to its home, and is green up to 19
left-begins : is_green_at net lines 1 0 ≡ true
unfolding net phase link lines rows
left-begins = refl

left-in-yellow : is_green_at net lines 1 10 ≡ true
unfolding net phase link lines rows
left-in-yellow = refl

left-in-all-red : is_green_at net lines 1 14 ≡ true
unfolding net phase link lines rows
left-in-all-red = refl

left-last : is_green_at net lines 1 19 ≡ true
unfolding net phase link lines rows
left-last = refl

left-off : is_green_at net lines 1 20 ≡ false
unfolding net phase link lines rows
left-off = refl

-- cross begins at 25, which is 19 + 1 + 3 + 2
cross-waits : is_green_at net lines 2 24 ≡ false
unfolding net phase link lines rows
cross-waits = refl

cross-on : is_green_at net lines 2 25 ≡ true
unfolding net phase link lines rows
cross-on = refl

left-clears : clearance_at net lines 1 19 ≡ 5
unfolding net phase link lines rows
left-clears = refl

-- in the change what follows is the yellow and all-red of the phase to which it leads
left-clears-in-change : clearance_at net lines 1 12 ≡ 5
unfolding net phase link lines rows
left-clears-in-change = refl
