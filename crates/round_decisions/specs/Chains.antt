-- A chain of decisions: each one from what the one before it tells.
use Rattle.std.specs.Prelude.{◌≡◌, ℕ, ◌+◌, ◌/◌, ◌<◌, List, Some, length}
use Rattle.board_model.specs.declared.boards.Heard.{Heard}
use Rattle.control_flow.specs.Signs.{sign_at}
use Rattle.control_flow.specs.Timelines.{first_head, rotation_of}
use Rattle.control_flow.specs.declared.greens.Green.{Green}
use Rattle.control_flow.specs.declared.greens.Sign.{Sign}
use Rattle.intersection_actor.specs.Commits.{Commitment}
use Rattle.net_parts.specs.Numbers.{Net}
use Rattle.net_parts.specs.Outline.{link_at, plan_at}
use Rattle.net_simulator.specs.Flow.{cumulative_under}
use Rattle.net_simulator.specs.Senses.{sense}
use Rattle.net_simulator.specs.Sums.{end_of_run}
use Rattle.round_states.specs.States.{begin_of}
use Rattle.round_states.specs.declared.states.RoundState.{RoundState}
use Rattle.runs.specs.Runs.{cumulative_by, plans_in}
use Rattle.round_decisions.specs.Decisions.{IsDecision, line_of, sensed_of}
use Rattle.round_decisions.specs.Lines.{rows_from}
use Rattle.round_decisions.specs.OfRuns.{board_in}
use Rattle.round_decisions.specs.Promises.{decided_line}
use Rattle.round_decisions.specs.Turns.{board_of, no_board}
use Rattle.round_decisions.specs.declared.decisions.Decision.{Decision}

-- Below, `states round` is the state from which a round of a chain is decided, and `decisions round` is its decision.

-- the rows of a node's line that the text of a round's decision tells
abbrev pub told_line : Net → (ℕ → Decision) → ℕ → ℕ → List Green
told_line net decisions round node = rows_from (begin_of net round) (decided_line (decisions round) node)

-- the sign of a node in a second, where `rows round node` are those of its line that a round tells: in the seconds of a round the signals
-- show what the round tells
abbrev pub shown_in : Net → (ℕ → ℕ → List Green) → ℕ → ℕ → Sign
shown_in net rows x node = sign_at (rows (x / net.run.step) node) x

-- the sign of a node in a second, where the signals show the rows that the decisions tell
abbrev pub shown_along : Net → (ℕ → Decision) → ℕ → ℕ → Sign
shown_along net decisions = shown_in net (told_line net decisions)

-- A chain of decisions from the first round of a run on. At first the ring turns from second 0, and no board has a forecast; in each
-- later round the lines and the boards are those that the decision before tells. What a node senses is what the world shows it
-- where the signals show the rows that the decisions tell; `arriving second link` is what enters a link from outside in a second.
pub record IsChain (net : Net) (arriving : ℕ → ℕ → ℕ) (states : ℕ → RoundState)
    (decisions : ℕ → Decision) : Type 0 where
  pub rounds : (round : ℕ) → round < net.run.rounds → (states round).round ≡ round
  pub decided : (round : ℕ) → round < net.run.rounds → IsDecision net (states round) (decisions round)
  pub sensed : (round node : ℕ) → round < net.run.rounds → node < length net.node_names
      → sensed_of (states round) node
      ≡ sense net (cumulative_under net arriving (shown_along net decisions) (begin_of net round))
      (begin_of net round) node
  pub first_lines : (node : ℕ) → node < length net.node_names
      → line_of (states 0) node ≡ rotation_of (plan_at net node) first_head 0
  pub lines : (round node : ℕ) → round + 1 < net.run.rounds → node < length net.node_names
      → line_of (states (round + 1)) node ≡ told_line net decisions round node
  pub first_boards : (link from to : ℕ) → (link_at net link).from ≡ Some from → (link_at net link).to ≡ Some to
      → board_of (states 0).boards link ≡ no_board
  pub boards : (round link from to : ℕ) → round + 1 < net.run.rounds → (link_at net link).from ≡ Some from
      → (link_at net link).to ≡ Some to
      → board_of (states (round + 1)).boards link ≡ board_of (decisions round).boards link

-- A decision tells what a run's round makes: the plan records, of each node's line the rows that this round and later ones need, and of
-- each link between two nodes the board with which the next round begins.
pub record TellsRound (net : Net) (heard : ℕ → ℕ → List Heard) (made : ℕ → ℕ → Commitment) (decisions : ℕ → Decision)
    (round : ℕ) : Type 0 where
  pub plans : (decisions round).plans ≡ plans_in net heard made round
  pub lines : (node : ℕ) → node < length net.node_names
      → told_line net decisions round node ≡ rows_from (begin_of net round) (made round node).line
  pub boards : (link from to : ℕ) → (link_at net link).from ≡ Some from → (link_at net link).to ≡ Some to
      → board_of (decisions round).boards link ≡ board_in net made link (round + 1)

-- A chain is a run: each decision tells what the run's round makes, and by its end the same has passed the links.
pub record IsChainOf (net : Net) (arriving : ℕ → ℕ → ℕ) (heard : ℕ → ℕ → List Heard) (made : ℕ → ℕ → Commitment)
    (decisions : ℕ → Decision) : Type 0 where
  pub tells : (round : ℕ) → round < net.run.rounds → TellsRound net heard made decisions round
  pub passed : cumulative_under net arriving (shown_along net decisions) (end_of_run net)
      ≡ cumulative_by net arriving made (end_of_run net)
