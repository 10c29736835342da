-- What the steps of a commit make. No public clause names these.
use Rattle.std.specs.Prelude.{◌≡◌, ℕ, ◌+◌, ◌*◌, ◌<◌, ◌≤◌, List, All, Some}
use Rattle.board_model.specs.declared.boards.Heard.{Heard}
use Rattle.phase_plan.specs.declared.Phase.{Phase}
use Rattle.switch_rules.specs.Sequences.{AreNextServings}
use Rattle.switch_rules.specs.declared.Cluster.{Cluster}
use Rattle.switch_rules.specs.declared.Head.{Head}
use Rattle.switch_rules.specs.declared.Served.{Served}
use Rattle.schedule_meaning.specs.Best.{IsBest}
use Rattle.schedule_meaning.specs.Instances.{Problem, counts_of}
use Rattle.control_flow.specs.Greens.{BeginBy, GoesOn, IsLawful, Joins, end_of, head_at, spliced}
use Rattle.control_flow.specs.Timelines.{AreServings}
use Rattle.control_flow.specs.declared.greens.Green.{Green}
use Rattle.net_parts.specs.Numbers.{Net}
use Rattle.net_parts.specs.Outline.{plan_at}
use Rattle.road_net.specs.declared.senses.Sensed.{Sensed}
use Rattle.clusters.specs.Sound.{AreOfNode, ArePlannable, cluster_lists}
use Rattle.clusters.specs.Options.{AreExpected}
use Rattle.clusters.specs.Windows.{IsWindow}
use Rattle.clusters.specs.declared.vehicle_groups.Platoon.{Platoon}
use Rattle.clusters.specs.declared.vehicle_groups.Window.{Window}
use Rattle.intersection_actor.specs.Commits.{AreServedBy, Commitment, IsCommit, line_for, phases_of, round_plan, used_of}
use Rattle.intersection_actor.specs.declared.planning.Schedule.{Schedule}
use Rattle.intersection_actor.specs.declared.planning.RoundPlan.{RoundPlan}

-- each cluster arrives by this second
abbrev pub ArriveBy : ℕ → List (List Cluster) → Type 0
ArriveBy second lists = All (λ list. All (λ (c : Cluster). c.arr ≤ second) list) lists

-- the window of the platoons that a node with this head expects: they are the node's, and their clusters make an instance, and
-- arrive while the network looks ahead
pub record IsExpected (net : Net) (node : ℕ) (head : Head) (sensed : Sensed) (heard : List Heard)
    (window : Window) : Type 0 where
  pub platoons : List (List Platoon)
  pub are : AreExpected net node head sensed heard platoons
  pub longest : IsWindow platoons window
  pub of_node : AreOfNode net node sensed.now window.lists
  pub plannable : ArePlannable (cluster_lists window.lists)
  pub soon : ArriveBy (sensed.now + net.run.look) (cluster_lists window.lists)

-- the best answer of a problem, with its phases, and what it serves
pub record IsScheduled (p : Problem) (s : Schedule) : Type 0 where
  pub best : IsBest p s.answer
  pub phases : s.phases ≡ phases_of s.answer
  pub served : AreServedBy p s.answer s.served
  pub next : AreNextServings p.plan p.lists (counts_of p.lists) p.head s.phases s.served

-- the timeline of a schedule can be spliced into one that has this head: it is lawful and goes on in the head, its rows begin
-- by 100,000, and it ends after `until`
pub record IsNextLine (plan : List Phase) (head : Head) (until : ℕ) (line : List Green) : Type 0 where
  pub lawful : IsLawful plan line
  pub goes_on : GoesOn head line
  pub begins : BeginBy 100000 line
  pub later : until < end_of line

-- what a schedule serves can be in a timeline from this head, and its greens begin by 100,000
pub record AreSoonServed (plan : List Phase) (head : Head) (s : Schedule) : Type 0 where
  pub served : AreServings plan head s.phases s.served
  pub greens : All (λ (r : Served). r.green ≤ 100000) s.served

-- the best answer of a problem, and its timeline from the problem's head
pub record HasLine (p : Problem) (until : ℕ) (s : Schedule) (line : List Green) : Type 0 where
  pub schedule : IsScheduled p s
  pub value : line ≡ line_for p.plan p.head s.answer s.served until
  pub next : IsNextLine p.plan p.head until line

-- what a plan of a round commits to, from this timeline, head and platoons
abbrev pub commitment : List Green → Head → List (List Platoon) → RoundPlan → Commitment
commitment old head platoons p = record {
  head = head;
  platoons = platoons;
  window = p.window;
  problem = p.instance;
  answer = p.schedule.answer;
  served = p.schedule.served;
  next = p.next;
  line = spliced old p.next;
}

-- a node's plan of a round: it is that of the node's commit, and can be told and spliced into the timeline
pub record IsPlanned (net : Net) (node : ℕ) (old : List Green) (sensed : Sensed) (heard : List Heard)
    (p : RoundPlan) : Type 0 where
  pub head : Head
  pub platoons : List (List Platoon)
  pub stands : head_at (plan_at net node) old sensed.now ≡ Some head
  pub is : (round : ℕ) → sensed.now ≡ round * net.run.step
      → IsCommit net node round old sensed heard (commitment old head platoons p)
  pub of_node : AreOfNode net node sensed.now p.window.lists
  pub phases : p.schedule.phases ≡ phases_of p.schedule.answer
  pub served : AreNextServings (round_plan net node sensed) (cluster_lists p.window.lists)
      (counts_of (cluster_lists p.window.lists)) head p.schedule.phases p.schedule.served
  pub joins : Joins old p.next
  pub line : IsNextLine (plan_at net node) head (sensed.now + net.run.look) p.next
  pub used : p.used ≡ used_of heard
