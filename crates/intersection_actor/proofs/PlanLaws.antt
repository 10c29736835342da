-- What is planned from a window and a head: the servings, and the timeline.
use Rattle.std.proofs.Common.{◌≡◌, ℕ, ◌+◌, ◌<◌, ◌≤◌, List, [], All, Some, length, sum, refl, sym, ap, subst, ◌∙◌, arith}
use Rattle.std.proofs.lemmas.List.{length-map, get_or-map}
use Rattle.std.proofs.lemmas.List.Elements.{All-from_get_or}
use Rattle.board_model.specs.declared.boards.Heard.{Heard}
use Rattle.phase_plan.specs.Phases.{IsRing}
use Rattle.phase_plan.specs.declared.Phase.{Phase}
use Rattle.switch_rules.specs.Sequences.{AreNextServings}
use Rattle.switch_rules.specs.Serving.{IsHead}
use Rattle.switch_rules.specs.declared.Cluster.{Cluster}
use Rattle.switch_rules.specs.declared.Head.{Head}
use Rattle.switch_rules.specs.declared.Served.{Served}
use Rattle.switch_rules.proofs.Counting.{count-le-sum}
use Rattle.schedule_meaning.specs.Instances.{Problem, counts_of}
use Rattle.control_flow.specs.Greens.{Joins, head_at}
use Rattle.control_flow.specs.Timelines.{AreServings}
use Rattle.control_flow.specs.declared.greens.Green.{Green}
use Rattle.control_flow.proofs.SequenceLaws.{next-servings}
use Rattle.net_parts.specs.Numbers.{Net}
use Rattle.net_parts.specs.Outline.{plan_at}
use Rattle.road_net.specs.declared.senses.Sensed.{Sensed}
use Rattle.clusters.specs.Sound.{cluster_lists, clusters_of}
use Rattle.clusters.specs.declared.vehicle_groups.Window.{Window}
use Rattle.intersection_actor.specs.Commits.{line_for, round_plan, used_of}
use Rattle.intersection_actor.specs.Steps.{AreSoonServed, HasLine, IsExpected, IsNextLine, IsPlanned, IsScheduled}
use Rattle.intersection_actor.specs.declared.planning.Schedule.{Schedule}
use Rattle.intersection_actor.specs.declared.planning.RoundPlan.{RoundPlan}
use Rattle.intersection_actor.proofs.RecallLaws.{length-round, line-still}
use Rattle.intersection_actor.proofs.ServedLaws.{greens-by}

-- lists with few clusters in all are short
pub lists-short : (lists : List (List Cluster)) → sum (counts_of lists) ≤ 40 → All (λ list. length list < 4294967296) lists
lists-short lists few = All-from_get_or (λ list. length list < 4294967296) lists [] (λ k lt.
    omega (arith, few, count-le-sum (counts_of lists) k, get_or-map (λ (list : List Cluster). length list) lists k [] 0 lt))

module _ (net : Net) (node : ℕ) (sensed : Sensed) (heard : List Heard) (plan : List Phase) (head : Head) (window : Window) (i : Problem) (schedule : Schedule) (p : IsRing plan) (same : plan ≡ round_plan net node sensed)
    (expected : IsExpected net node head sensed heard window) (is : i ≡ record { plan = plan; head = head; lists = cluster_lists window.lists }) (scheduled : IsScheduled i schedule) where
  plan-next : AreNextServings plan (cluster_lists window.lists) (counts_of (cluster_lists window.lists)) head schedule.phases schedule.served
  plan-next = subst (λ (q : Problem). AreNextServings q.plan q.lists (counts_of q.lists) q.head schedule.phases schedule.served) is scheduled.next

  plan-each : length (cluster_lists window.lists) ≡ length plan
  plan-each = length-map window.lists clusters_of ∙ expected.of_node.count ∙ sym (ap (λ (ps : List Phase). length ps) same ∙ length-round net node sensed)

  plan-servings : AreServings plan head schedule.phases schedule.served
  plan-servings = next-servings plan (cluster_lists window.lists) p plan-each expected.plannable.clusters schedule.phases (counts_of (cluster_lists window.lists)) head schedule.served plan-next

  plan-greens : IsHead plan head → sensed.now + net.run.look + 3600 ≤ 100000 → All (λ (s : Served). s.green ≤ 100000) schedule.served
  plan-greens h few = greens-by plan (cluster_lists window.lists) p plan-each expected.plannable.clusters (sensed.now + net.run.look) expected.soon
      schedule.phases (counts_of (cluster_lists window.lists)) head schedule.served h few plan-next

  pub plan-soon : IsHead plan head → sensed.now + net.run.look + 3600 ≤ 100000 → AreSoonServed i.plan i.head schedule
  plan-soon h few = subst (λ (q : Problem). AreSoonServed q.plan q.head schedule) (sym is) (record { served = plan-servings; greens = plan-greens h few })

-- what the steps make is the node's plan of the round
at-plan : (net : Net) (node : ℕ) (old : List Green) (sensed : Sensed) (heard : List Heard) (head : Head) (p : RoundPlan)
    → head_at (plan_at net node) old sensed.now ≡ Some head → Joins old p.next → IsExpected net node head sensed heard p.window
    → p.instance ≡ record { plan = round_plan net node sensed; head = head; lists = cluster_lists p.window.lists } → IsScheduled p.instance p.schedule
    → p.next ≡ line_for (round_plan net node sensed) head p.schedule.answer p.schedule.served (sensed.now + net.run.look) → IsNextLine (plan_at net node) head (sensed.now + net.run.look) p.next → p.used ≡ used_of heard
    → IsPlanned net node old sensed heard p
at-plan net node old sensed heard head p stands joins expected is scheduled value next used = record {
  head = head;
  platoons = expected.platoons;
  stands = stands;
  is = λ round now. record {
    now = now;
    problem = record { at = stands; expected = expected.are; taken = expected.longest; is = is };
    answer = scheduled.best;
    served = scheduled.served;
    next = value;
    line = refl;
  };
  of_node = expected.of_node;
  phases = scheduled.phases;
  served = subst (λ (q : Problem). AreNextServings q.plan q.lists (counts_of q.lists) q.head p.schedule.phases p.schedule.served) is scheduled.next;
  joins = joins;
  line = next;
  used = used;
}

pub planned-made : (net : Net) (node : ℕ) (old : List Green) (sensed : Sensed) (heard : List Heard) (plan : List Phase) (until : ℕ) (head : Head) (p : RoundPlan)
    → plan ≡ round_plan net node sensed → until ≡ sensed.now + net.run.look → head_at (plan_at net node) old sensed.now ≡ Some head → Joins old p.next → IsExpected net node head sensed heard p.window
    → p.instance ≡ record { plan = plan; head = head; lists = cluster_lists p.window.lists } → HasLine p.instance until p.schedule p.next → p.used ≡ used_of heard
    → IsPlanned net node old sensed heard p
planned-made net node old sensed heard plan until head p same ends stands joins expected is line used =
    let own : p.instance ≡ record { plan = round_plan net node sensed; head = head; lists = cluster_lists p.window.lists } =
    subst (λ (ps : List Phase). p.instance ≡ record { plan = ps; head = head; lists = cluster_lists p.window.lists }) same is in
    let value : p.next ≡ line_for (round_plan net node sensed) head p.schedule.answer p.schedule.served until =
    subst (λ (q : Problem). p.next ≡ line_for q.plan q.head p.schedule.answer p.schedule.served until) own line.value in
    let next : IsNextLine (round_plan net node sensed) head until p.next = subst (λ (q : Problem). IsNextLine q.plan q.head until p.next) own line.next in
    at-plan net node old sensed heard head p stands joins expected own line.schedule
    (subst (λ (u : ℕ). p.next ≡ line_for (round_plan net node sensed) head p.schedule.answer p.schedule.served u) ends value)
    (subst (λ (u : ℕ). IsNextLine (plan_at net node) head u p.next) ends (line-still net node sensed head until p.next next))
    used
