-- The plans of a round more are counted.
use Rattle.std.proofs.Common.{◌≡◌, ℕ, ◌+◌, ◌*◌, ◌≤◌, List, [], ◌++◌, length, ap, ◌∙◌, arith, length-append}
use Rattle.std.proofs.lemmas.List.Sums.{sum_by-append}
use Rattle.std.proofs.lemmas.Nat.{mul-le}
use Rattle.arrivals.specs.Amounts.{Amounts}
use Rattle.intersection_actor.specs.declared.records.PlanRecord.{PlanRecord}
use Rattle.net_parts.specs.Limits.{most_nodes, most_rounds}
use Rattle.net_parts.specs.Numbers.{Net}
use Rattle.road_net.specs.Network.{IsNetwork}
use Rattle.runs.specs.Tallies.{IsTallyOf, is_no_plan, none_count, planned_delay, planned_delays}
use Rattle.runs.specs.declared.plan_tallies.PlanTally.{PlanTally}
use Rattle.std.proofs.Common.{cond}
use Rattle.net_core.specs.States.{AreInRound}
use Rattle.net_core.specs.declared.parts.Parts.{Parts}
use Rattle.net_core.proofs.Room.{few-plans}

-- there is room for them in the count
pub few-counted : (net : Net) (network : IsNetwork net) (arrivals : Amounts) (h : List ℕ) (plans : List PlanRecord) (p : Parts) → AreInRound net arrivals h plans p → length plans + length net.node_names ≤ 17694720
few-counted net network arrivals h plans p i =
    let rounds : net.run.rounds ≤ most_rounds = (let most = network.outline.run.rounds.1 in omega arith) in
    let nodes : length net.node_names ≤ most_nodes = (let most = network.outline.node_count.1 in omega arith) in
    let most : net.run.rounds * length net.node_names ≤ most_rounds * most_nodes = mul-le net.run.rounds (length net.node_names) most_rounds most_nodes rounds nodes in
    omega (arith, most, few-plans net arrivals h plans p i)

-- so they are counted with those before
pub counted-more : (all more : List PlanRecord) (old new : PlanTally) → IsTallyOf all old → new.plans ≡ old.plans + length more → new.none ≡ old.none + none_count more → new.delay ≡ old.delay + planned_delays more → IsTallyOf (all ++ more) new
counted-more all more old new was plans none delay = record {
  plans = omega (arith, plans, was.plans, length-append all more);
  none = omega (arith, none, was.none, sum_by-append (λ (p : PlanRecord). cond (is_no_plan p.answer) 1 0) all more);
  delay = omega (arith, delay, was.delay, sum_by-append (λ (p : PlanRecord). planned_delay p.answer) all more);
}

-- what a list has that was empty
pub only-new : (slice now old more : List PlanRecord) → slice ≡ now → now ≡ old ++ more → old ≡ [] → slice ≡ more
only-new slice now old more is grown none = is ∙ grown ∙ ap (λ l. l ++ more) none
