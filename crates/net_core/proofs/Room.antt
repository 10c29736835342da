-- A core has capacity for the plans of each round.
use Rattle.std.proofs.Common.{◌≡◌, ℕ, ◌+◌, ◌*◌, ◌≤◌, List, length, vec_capacity, vec_len, ap, arith}
use Rattle.std.specs.Global.{Vec}
use Rattle.std.proofs.Math.Nat.{mul-le-mul_right}
use Rattle.arrivals.specs.Amounts.{Amounts}
use Rattle.intersection_actor.specs.declared.records.PlanRecord.{PlanRecord}
use Rattle.net_parts.specs.Numbers.{Net}
use Rattle.runs.proofs.PlanLists.{plans-few}
use Rattle.net_core.specs.States.{AreInRound}
use Rattle.net_core.specs.declared.parts.Parts.{Parts}

-- so many plans are there in a round
pub few-plans : (net : Net) (arrivals : Amounts) (h : List ℕ) (plans : List PlanRecord) (p : Parts) → AreInRound net arrivals h plans p → length plans + length net.node_names ≤ net.run.rounds * length net.node_names
few-plans net arrivals h plans p i =
    let nodes : ℕ = length net.node_names in
    let less = i.below in
    let most : (p.round + 1) * nodes ≤ net.run.rounds * nodes = mul-le-mul_right {m = p.round + 1} {n = net.run.rounds} nodes (omega arith) in
    let one : (p.round + 1) * nodes ≡ p.round * nodes + nodes = omega arith in
    omega (arith, most, one, ap length i.running.planned, plans-few net i.heard i.made p.round)

-- and a list that has capacity for all has it for those of the round
pub room-for : (net : Net) (arrivals : Amounts) (h : List ℕ) (plans : Vec PlanRecord) (p : Parts) → AreInRound net arrivals h plans.items p → net.run.rounds * length net.node_names ≤ vec_capacity plans → vec_len plans + length net.node_names ≤ vec_capacity plans
room-for net arrivals h plans p i capacity = omega (arith, few-plans net arrivals h plans.items p i, capacity, plans.ok.0)
