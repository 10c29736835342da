-- A commit: what a node plans in a round, from its signal, what it senses and what it has heard.
use Rattle.std.specs.Prelude.{◌≡◌, ℕ, ◌+◌, ◌*◌, Bool, nat_le, List, [], Option, None, Some, map}
use Rattle.std.specs.List.{list_any}
use Rattle.std.specs.Option.{option_map}
use Rattle.board_model.specs.declared.boards.Heard.{Heard}
use Rattle.phase_plan.specs.declared.Phase.{Phase}
use Rattle.switch_rules.specs.declared.Head.{Head}
use Rattle.switch_rules.specs.declared.Served.{Served}
use Rattle.schedule_meaning.specs.Best.{IsBest}
use Rattle.schedule_meaning.specs.Instances.{Problem}
use Rattle.schedule_meaning.specs.Timing.{timed}
use Rattle.schedule_meaning.specs.declared.planners.Answer.{Answer}
use Rattle.schedule_meaning.specs.declared.planners.Answer.TheVariants.{Plan, NoPlan}
use Rattle.control_flow.specs.Greens.{head_at, spliced}
use Rattle.control_flow.specs.Recalls.{recalled}
use Rattle.control_flow.specs.Timelines.{line_of, rotation_of}
use Rattle.control_flow.specs.declared.greens.Green.{Green}
use Rattle.net_parts.specs.Numbers.{Net}
use Rattle.net_parts.specs.Outline.{phase_links_at, plan_at}
use Rattle.road_net.specs.declared.senses.Sensed.{Sensed}
use Rattle.clusters.specs.Inflow.{sense_of}
use Rattle.clusters.specs.Sound.{cluster_lists}
use Rattle.clusters.specs.Options.{AreExpected}
use Rattle.clusters.specs.Windows.{IsWindow}
use Rattle.clusters.specs.declared.vehicle_groups.Platoon.{Platoon}
use Rattle.clusters.specs.declared.vehicle_groups.Window.{Window}
use Rattle.intersection_actor.specs.declared.records.PlanRecord.{PlanRecord}
use Rattle.intersection_actor.specs.declared.records.Used.{Used}

-- what a commit makes, in the order in which it is made
pub record Commitment : Type 0 where
  pub head : Head
  pub platoons : List (List Platoon)
  pub window : Window
  pub problem : Problem
  pub answer : Answer
  pub served : List Served
  pub next : List Green
  pub line : List Green

-- the phases of an answer, one after another; with no plan there are none
abbrev pub phases_of : Answer → List ℕ
phases_of (Plan sequence delay) = sequence
phases_of NoPlan = []

-- what an answer serves: with a plan what its sequence serves, with none nothing
abbrev pub AreServedBy : Problem → Answer → List Served → Type 0
AreServedBy p (Plan sequence delay) served = option_map (λ t. t.0) (timed p sequence) ≡ Some served
AreServedBy p NoPlan served = served ≡ []

-- the timeline of an answer from a head: with a plan that of its servings, with none the ring turns
abbrev pub line_for : List Phase → Head → Answer → List Served → ℕ → List Green
line_for plan head (Plan sequence delay) served until = line_of plan head sequence served until
line_for plan head NoPlan served until = rotation_of plan head until

-- Whether a node recalls phase k in this round: the queue of one of its links has stood for this many seconds or longer.
abbrev pub is_recalled : Net → ℕ → Sensed → ℕ → ℕ → Bool
is_recalled net node sensed recall k =
    list_any (λ l. nat_le recall (sense_of sensed l).stood) (phase_links_at net node k)

-- the phases of a node as it plans them in this round: where the network has `recall`, those that it recalls have no mark
abbrev pub plan_by : Net → ℕ → Sensed → Option ℕ → List Phase
plan_by net node sensed None = plan_at net node
plan_by net node sensed (Some recall) = recalled (plan_at net node) (is_recalled net node sensed recall)

-- the phases of a node as it plans them in this round, by the network's own `recall`
abbrev pub round_plan : Net → ℕ → Sensed → List Phase
round_plan net node sensed = plan_by net node sensed net.run.recall

-- What a node has to plan, from its timeline, what it senses and what it has heard: the clusters of the window of the platoons that it
-- expects, from the head that its timeline has now, by its phases of this round.
pub record IsProblemOf (net : Net) (node : ℕ) (line : List Green) (sensed : Sensed) (heard : List Heard) (head : Head)
    (platoons : List (List Platoon)) (window : Window) (problem : Problem) : Type 0 where
  pub at : head_at (plan_at net node) line sensed.now ≡ Some head
  pub expected : AreExpected net node head sensed heard platoons
  pub taken : IsWindow platoons window
  pub is : problem ≡ record { plan = round_plan net node sensed; head = head; lists = cluster_lists window.lists }

-- A node's commit in a round: of what it has to plan it takes the best answer; its new timeline is the old one, spliced with the
-- timeline of that answer for as long as the network looks ahead.
pub record IsCommit (net : Net) (node round : ℕ) (old : List Green) (sensed : Sensed) (heard : List Heard)
    (c : Commitment) : Type 0 where
  pub now : sensed.now ≡ round * net.run.step
  pub problem : IsProblemOf net node old sensed heard c.head c.platoons c.window c.problem
  pub answer : IsBest c.problem c.answer
  pub served : AreServedBy c.problem c.answer c.served
  pub next : c.next ≡ line_for (round_plan net node sensed) c.head c.answer c.served (sensed.now + net.run.look)
  pub line : c.line ≡ spliced old c.next

-- the versions that were heard, each with its link, in the order in which they were heard
abbrev pub used_of : List Heard → List Used
used_of heard = map (λ h. record { link = h.link; version = h.version }) heard

-- the plan record of a commit
abbrev pub record_of : ℕ → ℕ → List Heard → Commitment → PlanRecord
record_of node round heard c =
    record { node = node; round = round; used = used_of heard; instance = c.problem; answer = c.answer }
