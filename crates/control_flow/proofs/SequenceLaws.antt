-- What a sequence serves are servings of its phases, one after another.
use Rattle.std.proofs.Common.{◌≡◌, ℕ, List, [], ◌∷◌, length, All, Some, arith}
use Rattle.std.specs.Option.{option_map}
use Rattle.phase_plan.specs.Phases.{IsRing}
use Rattle.phase_plan.specs.declared.Phase.{Phase}
use Rattle.switch_rules.specs.Serving.{IsHead, IsCluster, head_after}
use Rattle.switch_rules.specs.Orders.{one_less}
use Rattle.switch_rules.specs.Sequences.{AreNextServings, timed_from}
use Rattle.switch_rules.specs.declared.Head.{Head}
use Rattle.switch_rules.specs.declared.Cluster.{Cluster}
use Rattle.switch_rules.specs.declared.Served.{Served}
use Rattle.switch_rules.proofs.SequenceLaws.{listed-next, next-within}
use Rattle.control_flow.specs.Timelines.{AreServings, IsServingOf}

module _ (plan : List Phase) (lists : List (List Cluster)) (p : IsRing plan) (each : length lists ≡ length plan) (bounds : All (All IsCluster) lists) where
  -- servings of the next clusters are servings
  pub next-servings : (ks left : List ℕ) (head : Head) (ss : List Served) → AreNextServings plan lists left head ks ss → AreServings plan head ks ss
  next-servings [] left head [] next = tt
  next-servings [] left head (s ∷ ss) next = absurd next
  next-servings (k ∷ ks) left head [] next = absurd next
  next-servings (k ∷ ks) left head (s ∷ ss) next =
      let one = next.0 in
      let within = next-within IsCluster lists left k one.cluster bounds one.next in
      let serving_is : IsServingOf plan head k s = record { phase = omega (arith, each, within.0); cluster = one.cluster; bounds = within.1; fit = one.fit } in
      (serving_is, next-servings ks (one_less left k) (head_after k s) ss next.1)

  -- and so is the list of what a feasible sequence serves
  pub listed-servings : (ks left : List ℕ) (head : Head) (list : List Served) → IsHead plan head → option_map (λ t. t.0) (timed_from plan lists left head ks) ≡ Some list → AreServings plan head ks list
  listed-servings ks left head list h e = next-servings ks left head list (listed-next plan lists p each bounds ks left head list h e)
