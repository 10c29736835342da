-- Decisions that were made from a state of the network can be written.
use Rattle.std.proofs.Common.{◌≡◌, ℕ, ◌+◌, ◌<◌, List, get_or, length, ap, ◌∙◌, arith}
use Rattle.std.proofs.lemmas.List.FromFn.{get_or-map-range_with_len, length-map-range_with_len}
use Rattle.intersection_actor.specs.declared.records.PlanRecord.{PlanRecord}
use Rattle.net_parts.specs.Numbers.{Net}
use Rattle.road_net.specs.Network.{IsNetwork}
use Rattle.round_states.specs.States.{IsStateOf}
use Rattle.round_states.specs.declared.asked.Asked.{Asked}
use Rattle.round_states.specs.declared.states.RoundState.{RoundState}
use Rattle.round_decisions.specs.Decisions.{board_after, plan_in}
use Rattle.round_decisions.specs.Promises.{IsKeptDecision, IsKeptTurn}
use Rattle.round_decisions.specs.declared.decisions.Decision.{Decision}
use Rattle.round_decisions.specs.declared.decisions.NodeDecision.{NodeDecision}
use Rattle.intersection_actor.proofs.UsedLinks.{used-exist}
use Rattle.round_decisions.specs.DecisionTexts.{IsDecisionOf, IsNodeDecisionOf}

module _ {asked : Asked} (net : Net) (network : IsNetwork net) (state : RoundState) (is : IsStateOf net asked state) where
  -- a decision has plans of the network's nodes, a line of each, and a board of each link
  pub decision-of : (d : Decision) → IsKeptDecision net state d → IsDecisionOf net d
  decision-of d made = record {
    plans = λ k x inside.
        let plan : PlanRecord = get_or d.plans k x in
        let below : k < length net.node_names = omega (arith, inside, ap length made.is.plans, length-map-range_with_len (plan_in net state made.is.made) 0 (length net.node_names)) in
        let at : plan ≡ plan_in net state made.is.made k =
        ap (λ (l : List PlanRecord). get_or l k x) made.is.plans ∙ get_or-map-range_with_len (plan_in net state made.is.made) 0 (length net.node_names) k k x below (let e : 0 + k ≡ k = omega arith in e) in
        let node : plan.node ≡ k = ap (λ (p : PlanRecord). p.node) at in
        let exists : plan.node < length net.node_names = omega (arith, node, below) in
        record { node = exists; used = used-exist net network plan.node plan.used (made.kept.planned k x inside).links };
    lines = ap length made.is.lines ∙ length-map-range_with_len (λ node. (made.is.made node).line) 0 (length net.node_names);
    boards = ap length made.is.boards ∙ length-map-range_with_len (board_after net state made.is.made (length net.node_names)) 0 (length net.link_names);
  }

  -- so has what a node decides a plan of it
  pub node-decision-of : (node : ℕ) → node < length net.node_names → (d : NodeDecision) → IsKeptTurn net state node d → IsNodeDecisionOf net d
  node-decision-of node below d made =
      let same : d.plan.node ≡ node = ap (λ (p : PlanRecord). p.node) made.is.plan_is in
      record {
        plan = record { node = omega (arith, same, below); used = used-exist net network node d.plan.used made.links };
        boards = made.is.boards.count ∙ is.board_count;
      }
