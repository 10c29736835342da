-- No commit makes a row that begins too late.
use Rattle.std.proofs.Common.{◌≡◌, ℕ, ◌+◌, ◌<◌, ◌≤◌, List, [], ◌∷◌, All, Option, Some, None, length, refl, sym, ap, subst, arith}
use Rattle.std.specs.Option.{option_map}
use Rattle.std.proofs.lemmas.List.Elements.{All-cons, All-nil}
use Rattle.std.proofs.lemmas.Option.{none-some, same_Some}
use Rattle.board_model.specs.declared.boards.Heard.{Heard}
use Rattle.clusters.specs.Sound.{ArePlannable, cluster_lists}
use Rattle.control_flow.specs.Greens.{BeginBy, head_at, head_in, row_after}
use Rattle.control_flow.specs.Timelines.{AreServings}
use Rattle.control_flow.specs.declared.greens.Green.{Green}
use Rattle.control_flow.proofs.MakingLaws.{line_of-by, line_of-line, rotation_of-by, rotation_of-line}
use Rattle.control_flow.proofs.RowLaws.{row_after-some}
use Rattle.control_flow.proofs.SpliceLaws.{continued, head_in-since}
use Rattle.control_flow.proofs.TurningLaws.{IsLineFrom}
use Rattle.intersection_actor.specs.Commits.{Commitment, IsCommit, line_for, phases_of, round_plan}
use Rattle.intersection_actor.specs.Steps.{ArriveBy}
use Rattle.intersection_actor.proofs.ArrivalLaws.{window-soon}
use Rattle.intersection_actor.proofs.RecallLaws.{lawful-round}
use Rattle.net_parts.specs.Limits.{most_seconds}
use Rattle.net_parts.specs.Numbers.{Net}
use Rattle.net_parts.specs.Outline.{plan_at}
use Rattle.phase_plan.specs.Phases.{IsRing}
use Rattle.phase_plan.specs.declared.Phase.{Phase}
use Rattle.phase_plan.proofs.RingLaws.{phase-bounds}
use Rattle.road_net.specs.Network.{IsNetwork}
use Rattle.road_net.specs.declared.senses.Sensed.{Sensed}
use Rattle.round_states.specs.States.{farthest_begin}
use Rattle.runs.proofs.Keep as keep
use Rattle.schedule_meaning.specs.Instances.{counts_of}
use Rattle.schedule_meaning.specs.declared.planners.Answer.{Answer}
use Rattle.schedule_meaning.specs.declared.planners.Answer.TheVariants.{Plan, NoPlan}
use Rattle.signal_safety.proofs.Lines.{plan-is}
use Rattle.signal_safety.proofs.Rounds.{IsLine, IsSoonHead}
use Rattle.switch_rules.specs.Orders.{one_less}
use Rattle.switch_rules.specs.Sequences.{AreNextServings}
use Rattle.switch_rules.specs.Serving.{IsCluster, IsHead, head_after}
use Rattle.switch_rules.specs.declared.Cluster.{Cluster}
use Rattle.switch_rules.specs.declared.Head.{Head}
use Rattle.switch_rules.specs.declared.Served.{Served}
use Rattle.switch_rules.proofs.SequenceLaws.{next-within}
use Rattle.switch_rules.proofs.ServingLaws.{serving-keeps}

-- greens begin no later than clusters arrive and may wait
module _ (plan : List Phase) (lists : List (List Cluster)) (p : IsRing plan) (each : length lists ≡ length plan) (bounds : All (All IsCluster) lists) (n most : ℕ) (within : n + 3600 ≤ most) (soon : ArriveBy n lists) where
  greens-soon : (ks left : List ℕ) (head : Head) (ss : List Served) → IsHead plan head → AreNextServings plan lists left head ks ss → All (λ (s : Served). s.green ≤ most) ss
  greens-soon [] left head [] h next = All-nil (λ (s : Served). s.green ≤ most)
  greens-soon [] left head (s ∷ ss) h next = absurd next
  greens-soon (k ∷ ks) left head [] h next = absurd next
  greens-soon (k ∷ ks) left head (s ∷ ss) h next =
      let one = next.0 in
      let inside = next-within IsCluster lists left k one.cluster bounds one.next in
      let by = next-within (λ (c : Cluster). c.arr ≤ n) lists left k one.cluster soon one.next in
      let below : k < length plan = omega (arith, each, inside.0) in
      let times = phase-bounds plan k p below in
      let keeps = serving-keeps plan head k one.cluster s (head_after k s) below times h inside.1 one.fit in
      let early : s.green ≤ most = omega (arith, keeps.times.in_green, keeps.times.waited, by.1, times.wait, within) in
      All-cons (λ (x : Served). x.green ≤ most) s ss early (greens-soon ks (one_less left k) (head_after k s) ss keeps.bounds.head next.1)

-- the timeline of an answer
module _ (plan : List Phase) (head : Head) (until : ℕ) (p : IsRing plan) (h : IsHead plan head) where
  answer-line : (answer : Answer) (served : List Served) → head.at ≤ 104000 → AreServings plan head (phases_of answer) served → IsLineFrom plan head until (line_for plan head answer served until)
  answer-line (Plan sequence delay) served reach are = line_of-line plan sequence served head until p h reach are
  answer-line NoPlan served reach are = rotation_of-line plan head until p h reach

  answer-soon : (answer : Answer) (served : List Served) (most : ℕ) → head.since ≤ most → until + 20 ≤ most → AreServings plan head (phases_of answer) served → All (λ (s : Served). s.green ≤ most) served
      → BeginBy most (line_for plan head answer served until)
  answer-soon (Plan sequence delay) served most since last are greens = line_of-by plan sequence served head until most p h are since last greens
  answer-soon NoPlan served most since last are greens = rotation_of-by plan head until most p h since last

-- a head of rows that begin by a second has begun by then
since-by : (plan : List Phase) (rows : List Green) (now : ℕ) (head : Head) (most : ℕ) → BeginBy most rows → head_at plan rows now ≡ Some head → head.since ≤ most
since-by plan rows now head most begins e = by (row_after rows now) refl e
  where
    by : (o : Option Green) → row_after rows now ≡ o → option_map (head_in plan now) o ≡ Some head → head.since ≤ most
    by None found is = absurd (none-some head is)
    by (Some here) found is =
        let same : head_in plan now here ≡ head = same_Some (head_in plan now here) head is in
        let from = row_after-some (λ (r : Green). r.from ≤ most) rows now here begins found in
        omega (arith, from.0, head_in-since plan now here, ap (λ (x : Head). x.since) same)

module _ (net : Net) (network : IsNetwork net) (node : ℕ) (below : node < length net.node_names) (round : ℕ) (old : List Green) (sensed : Sensed) (heard : List Heard) (c : Commitment)
    (early : sensed.now ≤ most_seconds) (line : IsLine (plan_at net node) old) (is : IsCommit net node round old sensed heard c) where
  plan : IsRing (plan_at net node)
  plan = plan-is net network node below

  look : net.run.look ≤ 180
  look = network.outline.run.look.1

  soon-head : IsSoonHead (plan_at net node) c.head
  soon-head = keep.soon-head net network node below round old sensed heard c early line is

  ready : ArePlannable (cluster_lists c.window.lists)
  ready = keep.ready net network node below round old sensed heard c early line is

  -- the phases of the round
  abbrev phases : List Phase
  phases = round_plan net node sensed

  pub phases-plan : IsRing phases
  phases-plan = keep.phases-plan net network node below round old sensed heard c early line is

  pub phases-head : IsHead phases c.head
  phases-head = (keep.phases-head net network node below round old sensed heard c early line is).is

  each : length (cluster_lists c.window.lists) ≡ length phases
  each = keep.each net network node below round old sensed heard c early line is

  pub servings : AreServings phases c.head (phases_of c.answer) c.served
  servings = keep.servings net network node below round old sensed heard c early line is

  greens : All (λ (s : Served). s.green ≤ sensed.now + farthest_begin) c.served
  greens = greens-soon phases (cluster_lists c.window.lists) phases-plan each ready.clusters (sensed.now + net.run.look) (sensed.now + farthest_begin) (omega (arith, look))
      (window-soon net node c.head sensed heard c.platoons c.window is.problem.expected is.problem.taken) (phases_of c.answer) (counts_of (cluster_lists c.window.lists)) c.head c.served phases-head (keep.served-next net network node below round old sensed heard c early line is)

  abbrev until : ℕ
  until = sensed.now + net.run.look

  pub own : IsLineFrom phases c.head until c.next
  own = subst (IsLineFrom phases c.head until) (sym is.next) (answer-line phases c.head until phases-plan phases-head c.answer c.served (omega (arith, soon-head.reach)) servings)

  -- where the rows of the old line begin soon, so do those of the new one
  module _ (before : BeginBy (sensed.now + farthest_begin) old) where
    since : c.head.since ≤ sensed.now + farthest_begin
    since = since-by (plan_at net node) old sensed.now c.head (sensed.now + farthest_begin) before is.problem.at

    next-soon : BeginBy (sensed.now + farthest_begin) c.next
    next-soon = subst (BeginBy (sensed.now + farthest_begin)) (sym is.next) (answer-soon phases c.head until phases-plan phases-head c.answer c.served (sensed.now + farthest_begin) since (omega (arith, look)) servings greens)

    pub commit-soon : BeginBy (sensed.now + farthest_begin) c.line
    commit-soon = subst (BeginBy (sensed.now + farthest_begin)) (sym is.line)
        ((continued (plan_at net node) old sensed.now c.head c.next plan line.lawful is.problem.at (lawful-round net node sensed c.next own.lawful) own.begin).begins_by (sensed.now + farthest_begin) before next-soon)
