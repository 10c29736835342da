-- Own turns: in each round all nodes read first, so each of them decides by itself, from a state of its own.
use Rattle.std.specs.Prelude.{◌≡◌, ℕ, ◌+◌, ◌<◌, ◌⊎◌, List, Some, length, map}
use Rattle.board_model.specs.declared.boards.Heard.{Heard}
use Rattle.control_flow.specs.Timelines.{first_head, rotation_of}
use Rattle.control_flow.specs.declared.greens.Green.{Green}
use Rattle.histories.specs.Histories.{read_first}
use Rattle.intersection_actor.specs.Commits.{Commitment, record_of}
use Rattle.net_parts.specs.Numbers.{Net}
use Rattle.net_parts.specs.Outline.{link_at, plan_at}
use Rattle.net_simulator.specs.Flow.{cumulative_under}
use Rattle.net_simulator.specs.Senses.{sense}
use Rattle.net_simulator.specs.Sums.{end_of_run}
use Rattle.road_net.specs.Network.{heard_links}
use Rattle.round_states.specs.States.{begin_of}
use Rattle.round_states.specs.declared.states.RoundState.{RoundState}
use Rattle.runs.specs.Runs.{IsRun, cumulative_by, hearing, line_before, sensed_in}
use Rattle.runs.specs.declared.records.RunRecord.{RunRecord}
use Rattle.round_decisions.specs.Chains.{shown_in}
use Rattle.round_decisions.specs.Decisions.{line_of, sensed_of}
use Rattle.round_decisions.specs.Lines.{rows_from}
use Rattle.round_decisions.specs.OfRuns.{board_in}
use Rattle.round_decisions.specs.Origins.{IsTurnOf}
use Rattle.round_decisions.specs.Turns.{board_of, no_board}
use Rattle.round_decisions.specs.declared.decisions.NodeDecision.{NodeDecision}

-- In each round of a run each node hears, of each link on which it hears another one, what was told in the round before: the version
-- that the round's number is, with its forecast.
abbrev pub HearsRoundBefore : Net → (ℕ → ℕ → List Heard) → (ℕ → ℕ → Commitment) → Type 0
HearsRoundBefore net heard made = (round node : ℕ) → round < net.run.rounds → node < length net.node_names
    → heard round node ≡ map (λ link. hearing net made link round) (heard_links net node)

-- a node is one of the two at the ends of a link
abbrev pub IsEnd : ℕ → ℕ → ℕ → Type 0
IsEnd node from to = (node ≡ from) ⊎ (node ≡ to)

-- The state of one node is that of its round in a run, as far as its own turn needs it: the node senses there what it senses in the run,
-- its line is the run's before the round, and the board of each link on which it hears another node or tells one is that with which the
-- round begins.
pub record IsOwnStateIn (net : Net) (arriving : ℕ → ℕ → ℕ) (made : ℕ → ℕ → Commitment) (node : ℕ)
    (state : RoundState) : Type 0 where
  pub round : state.round < net.run.rounds
  pub sensed : sensed_of state node ≡ sensed_in net arriving made state.round node
  pub line : line_of state node ≡ line_before net made state.round node
  pub board_count : length state.boards ≡ length net.link_names
  pub boards : (link from to : ℕ) → (link_at net link).from ≡ Some from → (link_at net link).to ≡ Some to
      → IsEnd node from to
      → board_of state.boards link ≡ board_in net made link state.round

-- What a node's own turn tells is its part of a run's round: the plan record, the rows of its line that this round and later ones need, and
-- on each link on which it tells another node the board with which the run's next round begins.
pub record TellsTurn (net : Net) (heard : ℕ → ℕ → List Heard) (made : ℕ → ℕ → Commitment) (round node : ℕ)
    (d : NodeDecision) : Type 0 where
  pub plan : d.plan ≡ record_of node round (heard round node) (made round node)
  pub rows : rows_from (begin_of net round) d.line ≡ rows_from (begin_of net round) (made round node).line
  pub boards : (link to : ℕ) → (link_at net link).from ≡ Some node → (link_at net link).to ≡ Some to
      → board_of d.boards link ≡ board_in net made link (round + 1)

-- a node's own turn is its part of a run's round: what it tells, and its whole line
pub record IsTurnIn (net : Net) (heard : ℕ → ℕ → List Heard) (made : ℕ → ℕ → Commitment) (round node : ℕ)
    (d : NodeDecision) : Type 0 where
  pub tells : TellsTurn net heard made round node d
  pub line : d.line ≡ (made round node).line

-- Below, `states round node` is the state from which a node has its own turn in a round, and `turns round node` what it decides there.

-- the rows of its line that a node's own turn in a round tells
abbrev pub own_line : Net → (ℕ → ℕ → NodeDecision) → ℕ → ℕ → List Green
own_line net turns round node = rows_from (begin_of net round) (turns round node).line

-- A chain of own turns from the first round of a run on, in which no node knows more of another than the forecasts that this one told it.
-- At first the ring turns from second 0, and no board has a forecast; in each later round a node goes on from the line that its turn
-- before told, and, on the links between it and others, from the boards that the turns at their begins left. What a node senses is what
-- the world shows it where the signals show the rows that are told; `arriving second link` is what enters a link from outside in a second.
pub record IsOwnChain (net : Net) (arriving : ℕ → ℕ → ℕ) (states : ℕ → ℕ → RoundState)
    (turns : ℕ → ℕ → NodeDecision) : Type 0 where
  pub rounds : (round node : ℕ) → round < net.run.rounds → node < length net.node_names
      → (states round node).round ≡ round
  pub turned : (round node : ℕ) → round < net.run.rounds → node < length net.node_names
      → IsTurnOf net (states round node) node (turns round node)
  pub sensed : (round node : ℕ) → round < net.run.rounds → node < length net.node_names
      → sensed_of (states round node) node
      ≡ sense net (cumulative_under net arriving (shown_in net (own_line net turns)) (begin_of net round))
      (begin_of net round) node
  pub board_count : (round node : ℕ) → round < net.run.rounds → node < length net.node_names
      → length (states round node).boards ≡ length net.link_names
  pub first_lines : (node : ℕ) → node < length net.node_names
      → line_of (states 0 node) node ≡ rotation_of (plan_at net node) first_head 0
  pub lines : (round node : ℕ) → round + 1 < net.run.rounds → node < length net.node_names
      → line_of (states (round + 1) node) node ≡ own_line net turns round node
  pub first_boards : (link from to node : ℕ) → (link_at net link).from ≡ Some from → (link_at net link).to ≡ Some to
      → IsEnd node from to
      → board_of (states 0 node).boards link ≡ no_board
  pub boards : (round link from to node : ℕ) → round + 1 < net.run.rounds → (link_at net link).from ≡ Some from
      → (link_at net link).to ≡ Some to → IsEnd node from to
      → board_of (states (round + 1) node).boards link ≡ board_of (turns round from).boards link

-- A chain of own turns is a run: each turn tells its part of the run's round, and by its end the same has passed the links.
pub record IsOwnChainOf (net : Net) (arriving : ℕ → ℕ → ℕ) (heard : ℕ → ℕ → List Heard) (made : ℕ → ℕ → Commitment)
    (turns : ℕ → ℕ → NodeDecision) : Type 0 where
  pub tells : (round node : ℕ) → round < net.run.rounds → node < length net.node_names
      → TellsTurn net heard made round node (turns round node)
  pub passed : cumulative_under net arriving (shown_in net (own_line net turns)) (end_of_run net)
      ≡ cumulative_by net arriving made (end_of_run net)

-- A chain of own turns makes a run of the read-first order: what the nodes hear and make in that run is what the turns tell.
pub record IsOwnRun (net : Net) (arriving : ℕ → ℕ → ℕ) (turns : ℕ → ℕ → NodeDecision) : Type 0 where
  pub record_of_run : RunRecord
  pub run : IsRun net arriving (read_first net) record_of_run
  pub is : IsOwnChainOf net arriving run.heard run.made turns
