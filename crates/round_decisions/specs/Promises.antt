-- What every decision keeps.
use Rattle.std.specs.Prelude.{◌≡◌, ℕ, ◌+◌, ◌==◌, ◌<◌, List, [], All, if◌then◌else◌, length, map, slice_index_or}
use Rattle.board_model.specs.declared.boards.Heard.{Heard}
use Rattle.board_model.specs.declared.forecasts.Row.{Row}
use Rattle.clusters.specs.declared.vehicle_groups.Platoon.{Platoon}
use Rattle.clusters.specs.declared.vehicle_groups.Window.{Window}
use Rattle.control_flow.specs.Greens.{BeginBy}
use Rattle.control_flow.specs.Signs.{sign_at}
use Rattle.control_flow.specs.declared.greens.Green.{Green}
use Rattle.histories.specs.Steps.{publisher}
use Rattle.intersection_actor.specs.Commits.{Commitment, IsProblemOf}
use Rattle.intersection_actor.specs.declared.records.PlanRecord.{PlanRecord}
use Rattle.intersection_actor.specs.declared.records.Used.{Used}
use Rattle.net_parts.specs.Numbers.{Net}
use Rattle.net_parts.specs.Outline.{plan_at}
use Rattle.road_net.specs.Network.{heard_links}
use Rattle.round_states.specs.States.{IsBoard, IsLineAt, begin_of, farthest_begin}
use Rattle.round_states.specs.declared.states.RoundState.{RoundState}
use Rattle.runs.specs.Runs.{told_in}
use Rattle.schedule_meaning.specs.Best.{IsLeast}
use Rattle.signal_safety.specs.Safe.{IsSafe}
use Rattle.switch_rules.specs.declared.Head.{Head}
use Rattle.waits.specs.Discharges.{intergreens_of}
use Rattle.waits.specs.Rounds.{IsRound}
use Rattle.round_decisions.specs.Decisions.{IsDecision, line_of, sensed_of}
use Rattle.round_decisions.specs.Turns.{IsTurn, board_of}
use Rattle.round_decisions.specs.declared.decisions.Decision.{Decision}
use Rattle.round_decisions.specs.declared.decisions.NodeDecision.{NodeDecision}

-- the forecast of a version of a link: that of the state, or of the version that its publisher's commit made in this round
abbrev pub forecast_of : Net → RoundState → (ℕ → Commitment) → ℕ → ℕ → List Row
forecast_of net state made link version =
    if version == (board_of state.boards link).version then (board_of state.boards link).forecast
    else told_in net state.round link (made (publisher net link))

-- what a plan heard: the versions that it names, with their forecasts
abbrev pub heard_by : Net → RoundState → (ℕ → Commitment) → PlanRecord → List Heard
heard_by net state made plan =
    map (λ (u : Used). record {
      link = u.link;
      version = u.version;
      forecast = forecast_of net state made u.link u.version;
    }) plan.used

-- The instance of a plan is that of just the versions that it names: it is what the node has to plan, from its line, from what
-- it senses, and from the forecasts of those versions.
pub record IsPlannedFrom (net : Net) (state : RoundState) (made : ℕ → Commitment) (plan : PlanRecord) : Type 0 where
  pub round : plan.round ≡ state.round
  pub links : map (λ (u : Used). u.link) plan.used ≡ heard_links net plan.node
  pub head : Head
  pub platoons : List (List Platoon)
  pub window : Window
  pub instance : IsProblemOf net plan.node (line_of state plan.node) (sensed_of state plan.node)
      (heard_by net state made plan) head platoons window plan.instance

-- How a node's line goes on from the second in which a round begins: it is one for the next round, none of its rows begins too late
-- there, before that second it shows the same signs, and it is continued by lawful rows whose intergreens are no longer than the node
-- looks ahead, or than yellow and all-red take; so what bounds the waits of unmarked phases under the line bounds them under the next one.
pub record GoesOnAt (net : Net) (round node : ℕ) (old new : List Green) : Type 0 where
  pub next : IsLineAt (plan_at net node) (begin_of net (round + 1)) new
  pub soon : BeginBy (begin_of net (round + 1) + farthest_begin) new
  pub past : (second : ℕ) → second < begin_of net round → sign_at new second ≡ sign_at old second
  pub waits : IsRound (plan_at net node) (intergreens_of net net.run.look node) (begin_of net round) old new

-- the line of a node in a decision
abbrev pub decided_line : Decision → ℕ → List Green
decided_line d node = slice_index_or d.lines node []

-- What a decision keeps: each plan names just the links on which its node hears another one, its instance is made from the
-- versions that it names, and no sequence of it has less delay; each line goes on, and each board is one for the next round; and no
-- two links in conflict are ever green together.
pub record KeepsPromises (net : Net) (state : RoundState) (made : ℕ → Commitment) (d : Decision) : Type 0 where
  pub planned : All (IsPlannedFrom net state made) d.plans
  pub least : All (λ plan. IsLeast plan.instance plan.answer) d.plans
  pub lines : (node : ℕ) → node < length net.node_names
      → GoesOnAt net state.round node (line_of state node) (decided_line d node)
  pub boards : All (IsBoard (state.round + 1)) d.boards
  pub safe : IsSafe net (decided_line d)

-- a decision of a round from a state, with all that it keeps
pub record IsKeptDecision (net : Net) (state : RoundState) (d : Decision) : Type 0 where
  pub is : IsDecision net state d
  pub kept : KeepsPromises net state is.made d

-- the turn of one node from a state whose boards stand, with all that it keeps
pub record IsKeptTurn (net : Net) (state : RoundState) (node : ℕ) (d : NodeDecision) : Type 0 where
  pub is : IsTurn net state.round node (line_of state node) (sensed_of state node) state.boards d.boards d.plan d.line
  pub links : map (λ (u : Used). u.link) d.plan.used ≡ heard_links net node
  pub least : IsLeast d.plan.instance d.plan.answer
  pub line : GoesOnAt net state.round node (line_of state node) d.line
  pub boards : All (IsBoard (state.round + 1)) d.boards
