-- The kinds of texts that say the state of a round.
use Rattle.std.specs.Prelude.{◌≢◌, ℕ, List, Option}
use Rattle.round_states.specs.Codes.{state_code}
use Rattle.round_states.specs.Faults.{IsTextFault}
use Rattle.round_states.specs.Texts.{IsStateText}
use Rattle.round_states.specs.declared.asked.Asked.{Asked}
use Rattle.round_states.specs.declared.asked.Asked.TheVariants.{AllNodes, OneNode}
use Rattle.round_states.specs.declared.faults.StateFault.{StateFault}
use Rattle.round_states.specs.declared.faults.StateFault.TheVariants.{NoMemory}
use Rattle.round_states.specs.declared.states.RoundState.{RoundState}
use Rattle.net_parts.specs.Numbers.{Net, number_of}
use Rattle.commands.specs.Kinds.{Kind}

-- the first fault of a text that is to say the state of a round, for these nodes
abbrev pub IsBadState : Net → Asked → List ℕ → StateFault → Type 0
IsBadState net asked text fault = IsTextFault net asked text fault × (fault ≢ NoMemory)

-- the kind of texts that say the state in which a round of a network begins, for these nodes
abbrev pub AskedText : Net → Asked → Kind
AskedText net asked =
    record {
      Said = RoundState;
      Fault = StateFault;
      is_text = IsStateText net asked;
      is_fault = IsBadState net asked;
      code = state_code;
    }

-- the kind of those where all nodes are asked, and of those for a node alone
abbrev pub StateText : Net → Kind
StateText net = AskedText net AllNodes

abbrev pub NodeStateText : Net → Option ℕ → Kind
NodeStateText net node = AskedText net (OneNode node)

-- the kind of texts that say the state in which a round begins for a node alone, by the node's name
abbrev pub node_state_of : List ℕ → Net → Kind
node_state_of name net = NodeStateText net (number_of net.node_names name)
