-- Each grid stands for a network.
use Rattle.std.proofs.Common.{◌≡◌, ℕ, zero, suc, ◌+◌, ◌-◌, ◌*◌, ◌==◌, Bool, true, List, [], ◌∷◌, map, refl, arith}
use Rattle.std.specs.Prelude.{if◌then◌else◌}
use Rattle.std.specs.Fmt.{digits}
use Rattle.std.specs.List.{flat_map, position_or_len}
use Rattle.net_parts.specs.Bounds.{HasRun, IsRun}
use Rattle.scenario_gen.specs.Drafts.{grid_draft, run}
use Rattle.scenario_gen.specs.Grids.{AreRounds}
use Rattle.scenario_gen.specs.Layout.{IsSide, entry_roads, nodes, number_of}
use Rattle.scenario_gen.proofs.Legal.{HasNetwork, is_legal, legal-by}

numbers-within : (rounds : ℕ) → AreRounds rounds → IsRun (run rounds)
numbers-within rounds are = record { step = (omega arith, omega arith); look = (omega arith, omega arith); within = omega arith; gap = omega arith; rounds = (are.least, omega (arith, are.most)); seconds = omega (arith, are.most); age = tt; hold = tt; recall = tt; act_step = tt; rate = tt }

run-within : (side rounds : ℕ) → AreRounds rounds → HasRun (grid_draft side rounds)
run-within side rounds are = record { run = numbers-within rounds are; rounds = are.most }

-- the number that decimal digits and, after `_`, the number of a direction stand for
abbrev with_direction : ℕ → List ℕ → ℕ
with_direction n [] = n
with_direction n (b ∷ bs) = 4 * n + (b - 48)

abbrev number_from : ℕ → List ℕ → ℕ
number_from n [] = n
number_from n (b ∷ bs) = if b == 95 then with_direction n bs else number_from (10 * n + (b - 48)) bs

-- the number of a node by its name
abbrev node_guess : List ℕ → ℕ
node_guess [] = 0
node_guess (b ∷ bs) = number_from 0 bs

-- that of a road by its name: those that leave a node are by node and direction, those that enter stand after them in order
abbrev road_guess : ℕ → List ℕ → List ℕ → ℕ
road_guess leaving entering [] = 0
road_guess leaving entering (b ∷ bs) = if b == 108 then number_from 0 bs else leaving + position_or_len (λ n. n == number_from 0 bs) entering

abbrev entering : ℕ → List ℕ
entering side = map (λ r. 4 * r.node + number_of r.direction) (flat_map (entry_roads side) (nodes side))

abbrev is_legal_grid : ℕ → ℕ → Bool
is_legal_grid side rounds = is_legal node_guess (road_guess (4 * (side * side)) (entering side)) (grid_draft side rounds)

-- the test computes for each number of nodes a side
legal-2 : (rounds : ℕ) → is_legal_grid 2 rounds ≡ true
unfolding digits
legal-2 rounds = refl

legal-3 : (rounds : ℕ) → is_legal_grid 3 rounds ≡ true
unfolding digits
legal-3 rounds = refl

legal-4 : (rounds : ℕ) → is_legal_grid 4 rounds ≡ true
unfolding digits
legal-4 rounds = refl

legal-5 : (rounds : ℕ) → is_legal_grid 5 rounds ≡ true
unfolding digits
legal-5 rounds = refl

legal-6 : (rounds : ℕ) → is_legal_grid 6 rounds ≡ true
unfolding digits
legal-6 rounds = refl

legal-7 : (rounds : ℕ) → is_legal_grid 7 rounds ≡ true
unfolding digits
legal-7 rounds = refl

legal-8 : (rounds : ℕ) → is_legal_grid 8 rounds ≡ true
unfolding digits
legal-8 rounds = refl

legal : (side rounds : ℕ) → IsSide side → is_legal_grid side rounds ≡ true
legal zero rounds is = absurd (let h = is.least in omega arith)
legal (suc zero) rounds is = absurd (let h = is.least in omega arith)
legal (suc (suc zero)) rounds is = legal-2 rounds
legal (suc (suc (suc zero))) rounds is = legal-3 rounds
legal (suc (suc (suc (suc zero)))) rounds is = legal-4 rounds
legal (suc (suc (suc (suc (suc zero))))) rounds is = legal-5 rounds
legal (suc (suc (suc (suc (suc (suc zero)))))) rounds is = legal-6 rounds
legal (suc (suc (suc (suc (suc (suc (suc zero))))))) rounds is = legal-7 rounds
legal (suc (suc (suc (suc (suc (suc (suc (suc zero)))))))) rounds is = legal-8 rounds
legal (suc (suc (suc (suc (suc (suc (suc (suc (suc more))))))))) rounds is = absurd (let h = is.most in omega arith)

pub square : (side rounds : ℕ) → IsSide side → AreRounds rounds → HasNetwork (grid_draft side rounds)
square side rounds is are = legal-by node_guess (road_guess (4 * (side * side)) (entering side)) (grid_draft side rounds) (run-within side rounds are) (legal side rounds is)
