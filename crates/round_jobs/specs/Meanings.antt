-- What the commands mean that decide a round.
use Rattle.std.specs.Prelude.{◌≡◌, ℕ, List, None}
use Rattle.net_parts.specs.Numbers.{Net, number_of}
use Rattle.commands.specs.Meanings.{Meaning}
use Rattle.commands.specs.declared.refusals.Named.{Named}
use Rattle.commands.specs.declared.refusals.Named.TheVariants.{Node, Round, Factor}
use Rattle.scene_jobs.specs.Meanings.{over_network_with, two_texts}
use Rattle.round_jobs.specs.Kinds.{StateText, node_state_of}
use Rattle.round_jobs.specs.Rounds.{IsDecisionText, IsNodeDecisionText}

-- `decide NET STATE`
abbrev pub decide_meaning : List ℕ → List ℕ → Meaning
decide_meaning = over_network_with StateText IsDecisionText

-- the network has no node with the name
abbrev pub MissesNode : Net → List ℕ → Named → Type 0
MissesNode net node Node = number_of net.node_names node ≡ None
MissesNode net node Round = ⊥
MissesNode net node Factor = ⊥

-- `decide NET STATE NODE`
abbrev pub decide_node_meaning : List ℕ → List ℕ → List ℕ → Meaning
decide_node_meaning net state node = record {
  texts = two_texts (node_state_of node) net state;
  writes = λ said bytes. IsNodeDecisionText said.0 said.1.0 node bytes;
  against = λ said. ⊥;
  rejects = λ said bytes. ⊥;
  misses = λ said what. MissesNode said.0 node what;
}
