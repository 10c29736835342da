-- The same round, counted from another second as second 0.
use Rattle.std.specs.Prelude.{◌≡◌, ℕ, ◌+◌, ◌<◌, List, length, map, slice_index_or}
use Rattle.board_model.specs.declared.forecasts.Row.{Row}
use Rattle.control_flow.specs.declared.greens.Green.{Green}
use Rattle.intersection_actor.specs.declared.records.PlanRecord.{PlanRecord}
use Rattle.intersection_actor.specs.declared.records.Used.{Used}
use Rattle.net_parts.specs.Numbers.{Net}
use Rattle.road_net.specs.declared.senses.Sensed.{Sensed}
use Rattle.round_states.specs.States.{begin_of}
use Rattle.round_states.specs.declared.states.LinkBoard.{LinkBoard}
use Rattle.round_states.specs.declared.states.RoundState.{RoundState}
use Rattle.schedule_meaning.specs.Instances.{Problem}
use Rattle.switch_rules.specs.declared.Cluster.{Cluster}
use Rattle.switch_rules.specs.declared.Head.{Head}
use Rattle.round_decisions.specs.Decisions.{line_of, sensed_of}
use Rattle.round_decisions.specs.Lines.{rows_from}
use Rattle.round_decisions.specs.Promises.{decided_line}
use Rattle.round_decisions.specs.Turns.{IsTurn, board_of}
use Rattle.round_decisions.specs.declared.decisions.Decision.{Decision}
use Rattle.round_decisions.specs.declared.decisions.NodeDecision.{NodeDecision}

-- Below, what is moved by d seconds is the same d seconds later: each of its seconds is greater by d. Durations, amounts, phases and
-- delays are no seconds, and stay.

-- the rows of a line, moved
abbrev pub moved_green : ℕ → Green → Green
moved_green d row = record { phase = row.phase; from = row.from + d; to = row.to + d }

abbrev pub moved_line : ℕ → List Green → List Green
moved_line d rows = map (moved_green d) rows

-- the rows of a forecast, moved
abbrev pub moved_row : ℕ → Row → Row
moved_row d row = record { second = row.second + d; amount = row.amount }

abbrev pub moved_forecast : ℕ → List Row → List Row
moved_forecast d rows = map (moved_row d) rows

-- what is sensed, moved: what comes is told from the begin of the round on, and for how long a queue has stood is a duration
abbrev pub moved_sensed : ℕ → Sensed → Sensed
moved_sensed d sensed = record { now = sensed.now + d; links = sensed.links }

-- what a node has to plan, moved: its head and the arrivals of its clusters
abbrev pub moved_head : ℕ → Head → Head
moved_head d head = record { phase = head.phase; since = head.since + d; at = head.at + d; fresh = head.fresh }

abbrev pub moved_cluster : ℕ → Cluster → Cluster
moved_cluster d c = record { size = c.size; load = c.load; arr = c.arr + d; len = c.len }

abbrev pub moved_problem : ℕ → Problem → Problem
moved_problem d p =
    record { plan = p.plan; head = moved_head d p.head; lists = map (λ list. map (moved_cluster d) list) p.lists }

-- A state moved by some rounds: its round is greater by these, and what is sensed, the lines and the forecasts are moved by as many
-- seconds as these rounds take. The versions of its boards may be any.
pub record IsMovedState (net : Net) (rounds : ℕ) (state moved : RoundState) : Type 0 where
  pub round : moved.round ≡ state.round + rounds
  pub sensed : (node : ℕ) → node < length net.node_names
      → sensed_of moved node ≡ moved_sensed (begin_of net rounds) (sensed_of state node)
  pub lines : (node : ℕ) → node < length net.node_names
      → line_of moved node ≡ moved_line (begin_of net rounds) (line_of state node)
  pub board_count : length moved.boards ≡ length state.boards
  pub boards : (link : ℕ)
      → (board_of moved.boards link).forecast
      ≡ moved_forecast (begin_of net rounds) (board_of state.boards link).forecast

-- The version of a link in a decision is the same from two states, but for the versions with which they begin: it is above both by
-- as much.
abbrev pub IsVersionMoved : RoundState → RoundState → ℕ → ℕ → ℕ → Type 0
IsVersionMoved state moved link version other =
    other + (board_of state.boards link).version ≡ version + (board_of moved.boards link).version

-- a version of a link that was used, and the one that is used from the moved state
pub record IsMovedUse (state moved : RoundState) (heard other : Used) : Type 0 where
  pub link : other.link ≡ heard.link
  pub version : IsVersionMoved state moved heard.link heard.version other.version

-- A plan record moved by some rounds: it is of the same node, has the same answer, names the same links, and its instance is moved.
pub record IsMovedPlan (net : Net) (rounds : ℕ) (state moved : RoundState) (plan other : PlanRecord) : Type 0 where
  pub node : other.node ≡ plan.node
  pub round : other.round ≡ plan.round + rounds
  pub instance : other.instance ≡ moved_problem (begin_of net rounds) plan.instance
  pub answer : other.answer ≡ plan.answer
  pub uses : length other.used ≡ length plan.used
  pub used : (k : ℕ) (x : Used) → k < length plan.used
      → IsMovedUse state moved (slice_index_or plan.used k x) (slice_index_or other.used k x)

-- a board moved by some rounds
pub record IsMovedBoard (net : Net) (rounds : ℕ) (state moved : RoundState) (link : ℕ)
    (board other : LinkBoard) : Type 0 where
  pub version : IsVersionMoved state moved link board.version other.version
  pub forecast : other.forecast ≡ moved_forecast (begin_of net rounds) board.forecast

-- A decision from the moved state is the same decision, moved: the plan of each node; its line, also as it is told; and the board of
-- each link.
pub record IsMovedDecision (net : Net) (rounds : ℕ) (state moved : RoundState) (d other : Decision) : Type 0 where
  pub plan_count : length other.plans ≡ length d.plans
  pub plans : (k : ℕ) (x : PlanRecord) → k < length d.plans
      → IsMovedPlan net rounds state moved (slice_index_or d.plans k x) (slice_index_or other.plans k x)
  pub lines : (node : ℕ) → node < length net.node_names
      → decided_line other node ≡ moved_line (begin_of net rounds) (decided_line d node)
  pub told : (node : ℕ) → node < length net.node_names
      → rows_from (begin_of net moved.round) (decided_line other node)
      ≡ moved_line (begin_of net rounds) (rows_from (begin_of net state.round) (decided_line d node))
  pub boards : (link : ℕ) → link < length net.link_names
      → IsMovedBoard net rounds state moved link (board_of d.boards link) (board_of other.boards link)

-- what one node decides by itself in its turn from a state
abbrev pub IsTurnOf : Net → RoundState → ℕ → NodeDecision → Type 0
IsTurnOf net state node d =
    IsTurn net state.round node (line_of state node) (sensed_of state node) state.boards d.boards d.plan d.line

-- What one node decides by itself from the moved state is the same, moved.
pub record IsMovedTurn (net : Net) (rounds : ℕ) (state moved : RoundState) (d other : NodeDecision) : Type 0 where
  pub plan : IsMovedPlan net rounds state moved d.plan other.plan
  pub line : other.line ≡ moved_line (begin_of net rounds) d.line
  pub told : rows_from (begin_of net moved.round) other.line
      ≡ moved_line (begin_of net rounds) (rows_from (begin_of net state.round) d.line)
  pub boards : (link : ℕ) → link < length net.link_names
      → IsMovedBoard net rounds state moved link (board_of d.boards link) (board_of other.boards link)
