-- The worked network with finite storage, under the lines that were planned.
use Rattle.std.proofs.Common.{◌≡◌, ℕ, false, List, [], ◌∷◌, Some, None, eqb, cond, refl}
use Rattle.phase_plan.specs.declared.Phase.{Phase}
use Rattle.control_flow.specs.declared.greens.Green.{Green}
use Rattle.net_parts.specs.Numbers.{Net}
use Rattle.net_simulator.specs.Worlds.{signs_by}
use Rattle.net_simulator.specs.Moves.{history_by}
use Rattle.spillback_world.specs.StoredTotals.{stored_totals}
use Rattle.spillback_world.specs.Storage.{cumulative_in, all_goes}

phase : Phase
phase = record { least = 5; greatest = 30; yellow = 3; clear = 2; loss = 2; wait = 120; skip = false }

net : Net
unfolding phase
net = record {
  run = record { step = 5; look = 30; gap = 1; rounds = 4; split = false; age = None; hold = None; recall = None; act_step = None; rate = None };
  node_names = (97 ∷ []) ∷ (98 ∷ []) ∷ [];
  plans = (phase ∷ phase ∷ []) ∷ (phase ∷ phase ∷ []) ∷ [];
  phase_links = ((2 ∷ []) ∷ (0 ∷ []) ∷ []) ∷ ((1 ∷ []) ∷ (3 ∷ []) ∷ []) ∷ [];
  also_links = ([] ∷ [] ∷ []) ∷ ([] ∷ [] ∷ []) ∷ [];
  link_names = (0 ∷ []) ∷ (1 ∷ []) ∷ (2 ∷ []) ∷ (3 ∷ []) ∷ (4 ∷ []) ∷ [];
  links = record { from = None; to = Some 0; travel = 10; sat = 500; weight = 1; phase = 1; yield_sat = 0; walk = None } ∷ record { from = Some 0; to = Some 1; travel = 10; sat = 500; weight = 1; phase = 0; yield_sat = 0; walk = None } ∷ record { from = Some 1; to = Some 0; travel = 10; sat = 500; weight = 1; phase = 0; yield_sat = 0; walk = None }
      ∷ record { from = None; to = Some 1; travel = 10; sat = 500; weight = 1; phase = 1; yield_sat = 0; walk = None } ∷ record { from = Some 1; to = None; travel = 10; sat = 500; weight = 1; phase = 0; yield_sat = 0; walk = None } ∷ [];
  turns = (record { exit = 1; share = 1000 } ∷ []) ∷ (record { exit = 2; share = 500 } ∷ record { exit = 4; share = 500 } ∷ []) ∷ (record { exit = 1; share = 1000 } ∷ []) ∷ (record { exit = 4; share = 1000 } ∷ []) ∷ [] ∷ [];
  yields = [] ∷ [] ∷ [] ∷ [] ∷ [] ∷ [];
  conflicts = (2, 0) ∷ (1, 3) ∷ [];
}

arriving : ℕ → ℕ → ℕ
arriving x l = cond (eqb x 0) (cond (eqb l 0) 1000 0) 0

lines : ℕ → List Green
lines n = cond (eqb n 0) (record { phase = 0; from = 0; to = 5 } ∷ record { phase = 1; from = 10; to = 27 } ∷ []) (record { phase = 0; from = 0; to = 27 } ∷ [])

-- link ab holds 300, or sa 600; all others 2,000,000,000
store : ℕ → ℕ → ℕ → ℕ
store link most l = cond (eqb l link) most 2000000000

-- after three seconds, where sa is full
early : stored_totals net arriving (cumulative_in net arriving (store 0 600) (signs_by lines) 3) 3 ≡ record { entered = 600; left = 0; on = 600; outside = 400; delay = 1200 }
unfolding history_by all_goes net phase arriving lines store
early = refl

whole : stored_totals net arriving (cumulative_in net arriving (store 0 600) (signs_by lines) 20) 20 ≡ record { entered = 1000; left = 0; on = 1000; outside = 0; delay = 4100 }
unfolding history_by all_goes net phase arriving lines store
whole = refl

blocked : stored_totals net arriving (cumulative_in net arriving (store 1 300) (signs_by lines) 20) 20 ≡ record { entered = 1000; left = 0; on = 1000; outside = 0; delay = 7000 }
unfolding history_by all_goes net phase arriving lines store
blocked = refl

free : stored_totals net arriving (cumulative_in net arriving (λ l. 2000000000) (signs_by lines) 20) 20 ≡ record { entered = 1000; left = 0; on = 1000; outside = 0; delay = 500 }
unfolding history_by all_goes net phase arriving lines store
free = refl
