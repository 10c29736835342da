-- What each commit of a run keeps of its node's line.
use Rattle.std.proofs.Common.{◌≡◌, ℕ, ◌+◌, ◌<◌, ◌≤◌, List, All, length, refl, sym, subst, ◌∙◌, arith}
use Rattle.std.proofs.lemmas.List.{length-map}
use Rattle.board_model.specs.declared.boards.Heard.{Heard}
use Rattle.clusters.specs.Sound.{ArePlannable, cluster_lists, clusters_of}
use Rattle.control_flow.specs.Timelines.{AreServings, rotation_of}
use Rattle.control_flow.specs.declared.greens.Green.{Green}
use Rattle.control_flow.proofs.SequenceLaws.{next-servings}
use Rattle.intersection_actor.specs.Commits.{Commitment, IsCommit, line_for, phases_of, round_plan}
use Rattle.intersection_actor.specs.Rounds.{first_head}
use Rattle.intersection_actor.proofs.ArrivalLaws.{window-soon}
use Rattle.intersection_actor.proofs.RecallLaws.{head-round, lawful-round, length-round, plan-round}
use Rattle.intersection_actor.proofs.ServedLaws.{greens-by, schedule-made}
use Rattle.net_parts.specs.Limits.{most_seconds}
use Rattle.net_parts.specs.Numbers.{Net}
use Rattle.net_parts.specs.Outline.{plan_at}
use Rattle.phase_plan.specs.Phases.{IsRing}
use Rattle.phase_plan.specs.declared.Phase.{Phase}
use Rattle.road_net.specs.Network.{IsNetwork}
use Rattle.road_net.specs.declared.senses.Sensed.{Sensed}
use Rattle.schedule_meaning.specs.Instances.{IsInstance, Problem, counts_of}
use Rattle.schedule_meaning.specs.declared.planners.Answer.{Answer}
use Rattle.schedule_meaning.specs.declared.planners.Answer.TheVariants.{Plan, NoPlan}
use Rattle.signal_safety.proofs.Lines.{plan-is}
use Rattle.signal_safety.proofs.Rounds.{AllKeep, IsLine, IsNext, IsSoonHead, KeepsLine, all-keep as lines-keep, head-of, line-next, rotation-next, spliced-keeps}
use Rattle.switch_rules.specs.Sequences.{AreNextServings}
use Rattle.switch_rules.specs.declared.Head.{Head}
use Rattle.switch_rules.specs.declared.Served.{Served}
use Rattle.runs.specs.Runs.{AllCommit, line_before, sensed_in}
use Rattle.runs.proofs.Plannable.{plannable, window-count}

next-line : (plan : List Phase) (head : Head) (answer : Answer) (served : List Served) (until : ℕ) → IsRing plan → IsSoonHead plan head → until + 20 ≤ 100000
    → AreServings plan head (phases_of answer) served → All (λ (s : Served). s.green ≤ 100000) served → IsNext plan head (line_for plan head answer served until)
next-line plan head (Plan sequence delay) served until p h soon are greens = line-next plan head until p h soon sequence served are greens
next-line plan head NoPlan served until p h soon are greens = rotation-next plan head until p h soon

module _ (net : Net) (network : IsNetwork net) (node : ℕ) (below : node < length net.node_names) where
  plan : IsRing (plan_at net node)
  plan = plan-is net network node below

  first-line : IsLine (plan_at net node) (rotation_of (plan_at net node) first_head 0)
  first-line =
      let count = plan.count.0 in
      (rotation-next (plan_at net node) first_head 0 plan (record { is = record { phase = omega arith; begun = omega arith; within = omega arith }; since = omega arith; reach = omega arith }) (omega arith)).line

  module _ (round : ℕ) (old : List Green) (sensed : Sensed) (heard : List Heard) (c : Commitment) (early : sensed.now ≤ most_seconds) (line : IsLine (plan_at net node) old) (is : IsCommit net node round old sensed heard c) where
    look : net.run.look ≤ 180
    look = network.outline.run.look.1

    pub soon-head : IsSoonHead (plan_at net node) c.head
    soon-head = head-of (plan_at net node) old sensed.now c.head line (omega (arith, early)) is.problem.at

    pub ready : ArePlannable (cluster_lists c.window.lists)
    ready = plannable c.platoons c.window is.problem.taken net network node below c.head sensed early heard is.problem.expected

    -- the phases of the round
    abbrev pub phases : List Phase
    phases = round_plan net node sensed

    pub phases-plan : IsRing phases
    phases-plan = plan-round net node sensed plan

    pub phases-head : IsSoonHead phases c.head
    phases-head = record { is = head-round net node sensed c.head soon-head.is; since = soon-head.since; reach = soon-head.reach }

    pub each : length (cluster_lists c.window.lists) ≡ length phases
    each =
        length-map c.window.lists clusters_of ∙ window-count c.platoons c.window is.problem.taken net network node below c.head sensed early heard is.problem.expected
        ∙ sym (length-round net node sensed)

    instance_is : IsInstance (record { plan = phases; head = c.head; lists = cluster_lists c.window.lists })
    instance_is = record { plan = phases-plan; head = phases-head.is; since = soon-head.since; lists = each; clusters = ready.clusters; spaced = ready.spaced; few = ready.few; orders = ready.orders }

    pub served-next : AreNextServings phases (cluster_lists c.window.lists) (counts_of (cluster_lists c.window.lists)) c.head (phases_of c.answer) c.served
    served-next = subst (λ (p : Problem). AreNextServings p.plan p.lists (counts_of p.lists) p.head (phases_of c.answer) c.served) is.problem.is
        (schedule-made c.problem c.answer (phases_of c.answer) c.served (subst IsInstance (sym is.problem.is) instance_is) is.answer refl is.served).next

    pub servings : AreServings phases c.head (phases_of c.answer) c.served
    servings = next-servings phases (cluster_lists c.window.lists) phases-plan each ready.clusters (phases_of c.answer) (counts_of (cluster_lists c.window.lists)) c.head c.served served-next

    -- the greens by the phases of the round
    pub own : IsNext phases c.head c.next
    own =
        let greens = greens-by phases (cluster_lists c.window.lists) phases-plan each ready.clusters (sensed.now + net.run.look) (window-soon net node c.head sensed heard c.platoons c.window is.problem.expected is.problem.taken)
        (phases_of c.answer) (counts_of (cluster_lists c.window.lists)) c.head c.served phases-head.is (omega (arith, look, early)) served-next in
        subst (IsNext phases c.head) (sym is.next) (next-line phases c.head c.answer c.served (sensed.now + net.run.look) phases-plan phases-head (omega (arith, look, early)) servings greens)

    pub next : IsNext (plan_at net node) c.head c.next
    next = record { line = record { lawful = lawful-round net node sensed c.next own.line.lawful; begins = own.line.begins }; goes = own.goes }

    pub keeps : KeepsLine (plan_at net node) old sensed.now c.line
    keeps = subst (KeepsLine (plan_at net node) old sensed.now) (sym is.line) (spliced-keeps (plan_at net node) old sensed.now c.head c.next plan line is.problem.at next)

module _ (net : Net) (network : IsNetwork net) (arriving : ℕ → ℕ → ℕ) (heard : ℕ → ℕ → List Heard) (made : ℕ → ℕ → Commitment) (rounds : ℕ) (few : rounds ≤ net.run.rounds) (commits : AllCommit net arriving heard made rounds) where
  pub all-keep : AllKeep net (line_before net made) rounds
  all-keep = lines-keep net network (line_before net made) rounds few (first-line net network)
      (λ r node less below early line. keeps net network node below r (line_before net made r node) (sensed_in net arriving made r node) (heard r node) (made r node) early line (commits r node less below).commit)
