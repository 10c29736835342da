-- The run of a grid has few plans.
use Rattle.std.proofs.Common.{◌≡◌, ℕ, ◌*◌, ◌≤◌, List, length, map, ap, ◌∙◌, arith}
use Rattle.std.specs.List.{range_with_len}
use Rattle.std.proofs.lemmas.List.{length-map}
use Rattle.std.proofs.lemmas.List.FromFn.{length-range_with_len}
use Rattle.std.proofs.lemmas.Nat.{mul-le}
use Rattle.arrivals.specs.Amounts.{Amounts, arriving_of}
use Rattle.net_parts.proofs.DraftParts.{numbered-parts}
use Rattle.net_parts.specs.Numbers.{Net, node_names}
use Rattle.net_parts.specs.declared.drafts.DraftNode.{DraftNode}
use Rattle.net_parts.specs.declared.drafts.Run.{Run}
use Rattle.runs.proofs.PlanLists.{plans-few}
use Rattle.runs.specs.declared.plan_tallies.PlanTally.{PlanTally}
use Rattle.runs.specs.declared.records.RunTotals.{RunTotals}
use Rattle.scenario_gen.specs.Drafts.{grid_draft, node}
use Rattle.scenario_gen.specs.Grids.{AreRounds, IsGrid}
use Rattle.scenario_gen.specs.Layout.{IsSide, nodes}
use Rattle.bounded_runs.specs.Runs.{AreTurnTotals}

-- so many nodes has a grid
nodes-of : (side rounds : ℕ) → length (node_names (grid_draft side rounds)) ≡ side * side
nodes-of side rounds = length-map (map (node side) (nodes side)) (λ (n : DraftNode). n.name) ∙ length-map (nodes side) (node side) ∙ length-range_with_len 0 (side * side)

pub few-plans : (number side rounds : ℕ) (net : Net) (arrivals : Amounts) (left : RunTotals) (tally : PlanTally) → IsSide side → AreRounds rounds → IsGrid number side rounds net arrivals → AreTurnTotals net (arriving_of arrivals) left tally → tally.plans ≤ 38400
few-plans number side rounds net arrivals left tally is_side are_rounds grid turns =
    let parts = numbered-parts (grid_draft side rounds) net grid.network.numbers in
    let run : net.run.rounds ≡ rounds = ap (λ (r : Run). r.rounds) parts.run in
    let count : length net.node_names ≡ side * side = ap length parts.nodes ∙ nodes-of side rounds in
    let square : side * side ≤ 8 * 8 = mul-le side side 8 8 is_side.most is_side.most in
    let few : net.run.rounds * length net.node_names ≤ 600 * 64 = mul-le net.run.rounds (length net.node_names) 600 64 (let most = are_rounds.most in omega (arith, run, most)) (omega (arith, count, square)) in
    let by = turns.runs.kept.run in
    omega (arith, turns.counted.plans, ap length by.by.plans, plans-few net by.heard by.made net.run.rounds, few)
