-- A decision of a round: the turns of all nodes, in the order of their numbers.
use Rattle.std.specs.Prelude.{◌≡◌, ℕ, Bool, false, ◌<◌, ◌&&◌, List, [], Option, Some, None, if◌then◌else◌, is_some, length, map, nat_lt, slice_index_or}
use Rattle.std.specs.List.{range_with_len}
use Rattle.board_model.specs.declared.boards.Heard.{Heard}
use Rattle.control_flow.specs.declared.greens.Green.{Green}
use Rattle.histories.specs.Steps.{publisher}
use Rattle.intersection_actor.specs.Commits.{Commitment, IsCommit, record_of}
use Rattle.intersection_actor.specs.declared.records.PlanRecord.{PlanRecord}
use Rattle.net_parts.specs.Numbers.{Net}
use Rattle.net_parts.specs.Outline.{link_at}
use Rattle.road_net.specs.declared.senses.Sensed.{Sensed}
use Rattle.round_states.specs.States.{no_sense}
use Rattle.round_states.specs.declared.states.LinkBoard.{LinkBoard}
use Rattle.round_states.specs.declared.states.RoundState.{RoundState}
use Rattle.runs.specs.Runs.{told_in}
use Rattle.round_decisions.specs.Turns.{board_of, heard_on, next_board}
use Rattle.round_decisions.specs.declared.decisions.Decision.{Decision}

-- what a node senses in a state, and its line there
abbrev pub sensed_of : RoundState → ℕ → Sensed
sensed_of state node = slice_index_or state.sensed node no_sense

abbrev pub line_of : RoundState → ℕ → List Green
line_of state node = slice_index_or state.lines node []

-- whether the node at the begin of a link is one of the first `nodes`
abbrev pub is_below : ℕ → Option ℕ → Bool
is_below nodes None = false
is_below nodes (Some node) = nat_lt node nodes

-- whether one of the first `nodes` nodes tells another one on a link
abbrev pub has_told : Net → ℕ → ℕ → Bool
has_told net nodes link = is_below nodes (link_at net link).from && is_some (link_at net link).to

-- Below, `made node` is the commit of a node in the round.

-- the board of a link once the first `nodes` nodes have had their turns: that of the state, or, where its publisher is one of
-- them, the next version, with the forecast that the publisher's commit tells
abbrev pub board_after : Net → RoundState → (ℕ → Commitment) → ℕ → ℕ → LinkBoard
board_after net state made nodes link =
    if has_told net nodes link
    then next_board (board_of state.boards link) (told_in net state.round link (made (publisher net link)))
    else board_of state.boards link

-- what a node hears when its turn comes: the nodes with lesser numbers have had theirs
abbrev pub heard_in : Net → RoundState → (ℕ → Commitment) → ℕ → List Heard
heard_in net state made node = heard_on net (board_after net state made node) node

-- the plan record of a node
abbrev pub plan_in : Net → RoundState → (ℕ → Commitment) → ℕ → PlanRecord
plan_in net state made node = record_of node state.round (heard_in net state made node) (made node)

-- the first `nodes` nodes commit, each from its line, from what it senses, and from what it hears when its turn comes
abbrev pub AllCommit : Net → RoundState → (ℕ → Commitment) → ℕ → Type 0
AllCommit net state made nodes =
    (node : ℕ) → node < nodes
    → IsCommit net node state.round (line_of state node) (sensed_of state node) (heard_in net state made node)
    (made node)

-- A decision of a round from a state: all nodes commit, and it has their plan records, their lines, and the boards after all
-- turns.
pub record IsDecision (net : Net) (state : RoundState) (d : Decision) : Type 0 where
  pub made : ℕ → Commitment
  pub commits : AllCommit net state made (length net.node_names)
  pub plans : d.plans ≡ map (plan_in net state made) (range_with_len 0 (length net.node_names))
  pub lines : d.lines ≡ map (λ node. (made node).line) (range_with_len 0 (length net.node_names))
  pub boards : d.boards
      ≡ map (board_after net state made (length net.node_names)) (range_with_len 0 (length net.link_names))
