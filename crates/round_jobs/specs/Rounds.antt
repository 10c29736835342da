-- What `decide` writes: the decision of a round, or what one node decides in it.
use Rattle.std.specs.Prelude.{◌≡◌, ℕ, List, Some}
use Rattle.round_decisions.specs.DecisionTexts.{decision_text, node_decision_text}
use Rattle.net_parts.specs.Numbers.{Net, number_of}
use Rattle.round_decisions.specs.Promises.{IsKeptDecision, IsKeptTurn}
use Rattle.round_decisions.specs.declared.decisions.Decision.{Decision}
use Rattle.round_decisions.specs.declared.decisions.NodeDecision.{NodeDecision}
use Rattle.round_states.specs.declared.states.RoundState.{RoundState}

-- the bytes are the text of a decision of the round of this state, with all that a decision keeps
pub record IsDecisionText (net : Net) (state : RoundState) (bytes : List ℕ) : Type 0 where
  pub decision : Decision
  pub kept : IsKeptDecision net state decision
  pub text : bytes ≡ decision_text net state.round decision

-- the bytes are the text of what the node with this name decides in the round of this state, with all that it keeps
pub record IsNodeDecisionText (net : Net) (state : RoundState) (node : List ℕ) (bytes : List ℕ) : Type 0 where
  pub number : ℕ
  pub named : number_of net.node_names node ≡ Some number
  pub decision : NodeDecision
  pub kept : IsKeptTurn net state number decision
  pub text : bytes ≡ node_decision_text net state.round number decision
