-- Decisions in a run.
use Rattle.std.specs.Prelude.{◌≡◌, ℕ, ◌+◌, ◌<◌, List, Some, length, map}
use Rattle.std.specs.List.{range_with_len}
use Rattle.board_model.specs.declared.boards.Heard.{Heard}
use Rattle.histories.specs.Histories.{turn_order}
use Rattle.intersection_actor.specs.Commits.{Commitment}
use Rattle.net_parts.specs.Numbers.{Net}
use Rattle.net_parts.specs.Outline.{link_at}
use Rattle.round_states.specs.declared.states.LinkBoard.{LinkBoard}
use Rattle.round_states.specs.declared.states.RoundState.{RoundState}
use Rattle.runs.specs.Runs.{HearAlong, IsRunBy, forecast_at, line_before, plans_in, sensed_in}
use Rattle.runs.specs.declared.records.RunRecord.{RunRecord}
use Rattle.round_decisions.specs.Decisions.{line_of, sensed_of}
use Rattle.round_decisions.specs.Turns.{board_of}
use Rattle.round_decisions.specs.declared.decisions.Decision.{Decision}

-- the run of the turn order
pub record IsTurnRun (net : Net) (arriving : ℕ → ℕ → ℕ) (heard : ℕ → ℕ → List Heard) (made : ℕ → ℕ → Commitment)
    (run : RunRecord) : Type 0 where
  pub by : IsRunBy net arriving heard made run
  pub along : HearAlong net (turn_order net) heard made

-- the board of a link as a round of a run begins: the version that the round's number is, with its forecast
abbrev pub board_in : Net → (ℕ → ℕ → Commitment) → ℕ → ℕ → LinkBoard
board_in net made link round = record { version = round; forecast = forecast_at net made link round }

-- The state is that of its round in a run: each node senses there what it senses in the run, each line is the run's before the
-- round, and each board of a link between two nodes is that with which the round begins.
pub record IsStateIn (net : Net) (arriving : ℕ → ℕ → ℕ) (made : ℕ → ℕ → Commitment) (state : RoundState) : Type 0 where
  pub round : state.round < net.run.rounds
  pub sensed : (node : ℕ) → node < length net.node_names
      → sensed_of state node ≡ sensed_in net arriving made state.round node
  pub lines : (node : ℕ) → node < length net.node_names → line_of state node ≡ line_before net made state.round node
  pub boards : (link from to : ℕ) → (link_at net link).from ≡ Some from → (link_at net link).to ≡ Some to
      → board_of state.boards link ≡ board_in net made link state.round

-- A decision has the plan records of a run's round, and the lines of its commits; and each board of a link between two nodes is that
-- with which the run's next round begins.
pub record IsRoundIn (net : Net) (heard : ℕ → ℕ → List Heard) (made : ℕ → ℕ → Commitment) (round : ℕ)
    (d : Decision) : Type 0 where
  pub plans : d.plans ≡ plans_in net heard made round
  pub lines : d.lines ≡ map (λ node. (made round node).line) (range_with_len 0 (length net.node_names))
  pub boards : (link from to : ℕ) → (link_at net link).from ≡ Some from → (link_at net link).to ≡ Some to
      → board_of d.boards link ≡ board_in net made link (round + 1)
