-- A run: what each node makes in each round, from what it senses and hears, and the record of it.
use Rattle.std.specs.Prelude.{◌≡◌, ℕ, zero, suc, ◌*◌, ◌/◌, ◌<◌, List, [], Contains, length, map, slice_index}
use Rattle.std.specs.List.{flat_map, range_with_len}
use Rattle.board_model.specs.declared.boards.Heard.{Heard}
use Rattle.board_model.specs.declared.forecasts.Row.{Row}
use Rattle.clusters.specs.Inflow.{IsHeardOf}
use Rattle.clusters.specs.Windows.{counts_of}
use Rattle.control_flow.specs.Signs.{sign_at}
use Rattle.control_flow.specs.Timelines.{rotation_of}
use Rattle.control_flow.specs.declared.greens.Green.{Green}
use Rattle.histories.specs.Histories.{round_at, step_at, version_at}
use Rattle.histories.specs.Steps.{board_steps, publisher}
use Rattle.histories.specs.declared.steps.BoardStep.TheVariants.{Read}
use Rattle.intersection_actor.specs.Commits.{Commitment, IsCommit, phases_of, record_of}
use Rattle.intersection_actor.specs.Rounds.{first_head}
use Rattle.intersection_actor.specs.declared.records.PlanRecord.{PlanRecord}
use Rattle.net_parts.specs.Numbers.{Net}
use Rattle.net_parts.specs.Outline.{plan_at}
use Rattle.net_simulator.specs.Flow.{Cumulative, cumulative_under}
use Rattle.net_simulator.specs.Senses.{sense}
use Rattle.net_simulator.specs.Sums.{end_of_run, link_totals, totals}
use Rattle.outflow.specs.Outflow.{departures, told_forecast}
use Rattle.road_net.specs.declared.senses.Sensed.{Sensed}
use Rattle.runs.specs.declared.records.RunRecord.{RunRecord}
use Rattle.control_flow.specs.declared.greens.Sign.{Sign}

-- In this file `arriving second link` is what enters a link from outside in a second, in thousandths of a vehicle; `made round node`
-- is the commit of a node in a round, and `heard round node` what it has read of the boards before: a version of each link, with
-- its forecast.

-- the line of a node before a round: at first the ring turns from second 0, and then it is that of the commit of the round before
abbrev pub line_before : Net → (ℕ → ℕ → Commitment) → ℕ → ℕ → List Green
line_before net made zero node = rotation_of (plan_at net node) first_head 0
line_before net made (suc round) node = (made round node).line

-- the sign of a node in a second: in the seconds of a round the signals show the lines of its commits
abbrev pub shown_by : Net → (ℕ → ℕ → Commitment) → ℕ → ℕ → Sign
shown_by net made x node = sign_at (made (x / net.run.step) node).line x

-- what passed the links in the first n seconds, where the signals show the timelines of the nodes' commits
abbrev pub cumulative_by : Net → (ℕ → ℕ → ℕ) → (ℕ → ℕ → Commitment) → ℕ → ℕ → ℕ → Cumulative
cumulative_by net arriving made n = cumulative_under net arriving (shown_by net made) n

-- what a node senses when a round begins
abbrev pub sensed_in : Net → (ℕ → ℕ → ℕ) → (ℕ → ℕ → Commitment) → ℕ → ℕ → Sensed
sensed_in net arriving made round node =
    sense net (cumulative_by net arriving made (round * net.run.step)) (round * net.run.step) node

-- what a commit of a round tells on a link
abbrev pub told_in : Net → ℕ → ℕ → Commitment → List Row
told_in net round link c =
    told_forecast net link (round * net.run.step)
    (departures c.window.lists (counts_of c.window.lists) (phases_of c.answer) c.served)

-- the forecast of a version of a link: version 0 is the empty one, and version k + 1 is what the commit in round k of the node that
-- publishes on the link tells
abbrev pub forecast_at : Net → (ℕ → ℕ → Commitment) → ℕ → ℕ → List Row
forecast_at net made link zero = []
forecast_at net made link (suc round) = told_in net round link (made round (publisher net link))

-- what is heard of a link with this version
abbrev pub hearing : Net → (ℕ → ℕ → Commitment) → ℕ → ℕ → Heard
hearing net made link version = record { link = link; version = version; forecast = forecast_at net made link version }

-- A node commits in a round: it has heard each link on which it hears another node, in their order, and its commit is made from
-- its line before the round, from what it senses when the round begins, and from what it has heard.
pub record Commits (net : Net) (arriving : ℕ → ℕ → ℕ) (heard : ℕ → ℕ → List Heard) (made : ℕ → ℕ → Commitment)
    (round node : ℕ) : Type 0 where
  pub links : IsHeardOf net node (heard round node)
  pub commit : IsCommit net node round (line_before net made round node) (sensed_in net arriving made round node)
      (heard round node) (made round node)

-- each node of the network commits in each of the first `rounds` rounds
abbrev pub AllCommit : Net → (ℕ → ℕ → ℕ) → (ℕ → ℕ → List Heard) → (ℕ → ℕ → Commitment) → ℕ → Type 0
AllCommit net arriving heard made rounds =
    (round node : ℕ) → round < rounds → node < length net.node_names → Commits net arriving heard made round node

-- the plan records of a round, one for each node, in the order of the nodes
abbrev pub plans_in : Net → (ℕ → ℕ → List Heard) → (ℕ → ℕ → Commitment) → ℕ → List PlanRecord
plans_in net heard made round =
    map (λ node. record_of node round (heard round node) (made round node)) (range_with_len 0 (length net.node_names))

-- the plan records of the first `rounds` rounds, round after round, and in each by node
abbrev pub plans_of : Net → (ℕ → ℕ → List Heard) → (ℕ → ℕ → Commitment) → ℕ → List PlanRecord
plans_of net heard made rounds = flat_map (plans_in net heard made) (range_with_len 0 rounds)

-- The record of a run in which the nodes hear this: they commit in all rounds; it has their plan records by round and node, the
-- last line of each node, and what the world has counted of each link and in all when the last round is over.
pub record IsRunBy (net : Net) (arriving : ℕ → ℕ → ℕ) (heard : ℕ → ℕ → List Heard) (made : ℕ → ℕ → Commitment)
    (run : RunRecord) : Type 0 where
  pub commits : AllCommit net arriving heard made net.run.rounds
  pub plans : run.plans ≡ plans_of net heard made net.run.rounds
  pub timelines : run.timelines ≡ map (line_before net made net.run.rounds) (range_with_len 0 (length net.node_names))
  pub links : run.links
      ≡ map (link_totals net (cumulative_by net arriving made (end_of_run net)) (end_of_run net))
      (range_with_len 0 (length net.link_names))
  pub all : run.totals ≡ totals net arriving (cumulative_by net arriving made (end_of_run net)) (end_of_run net)

-- The nodes hear along a history: at each place where a node reads a link, it hears the version that the link has there, with the
-- forecast that was published as that version.
abbrev pub HearAlong : Net → List ℕ → (ℕ → ℕ → List Heard) → (ℕ → ℕ → Commitment) → Type 0
HearAlong net history heard made =
    (place link : ℕ) → place < length history → step_at (board_steps net) history place ≡ Read link
    → Contains (heard (round_at (board_steps net) history place) (slice_index history place))
    (hearing net made link (version_at (board_steps net) history link place))

-- The run of a history: its record is that of a run in which the nodes hear along the history.
pub record IsRun (net : Net) (arriving : ℕ → ℕ → ℕ) (history : List ℕ) (run : RunRecord) : Type 0 where
  pub heard : ℕ → ℕ → List Heard
  pub made : ℕ → ℕ → Commitment
  pub by : IsRunBy net arriving heard made run
  pub along : HearAlong net history heard made
