-- Each round of a run continues its nodes' lines within intergreens.
use Rattle.std.proofs.Common.{◌≡◌, ℕ, zero, suc, ◌+◌, ◌*◌, ◌<◌, ◌≤◌, ◌==◌, max, leb, Bool, true, List, Contains, Option, Some, None, length, map, unwrap_or, refl, sym, ap, subst, ◌∙◌, inl, inr, arith, suc-mul, eqb-true}
use Rattle.std.specs.Option.{option_map}
use Rattle.std.proofs.lemmas.Bool.{cases_lt, le-leb, or_left}
use Rattle.std.proofs.lemmas.List.{get_or_past}
use Rattle.std.proofs.lemmas.Nat.{div_below}
use Rattle.std.proofs.lemmas.Option.{none-some, same_Some}
use Rattle.foundation.proofs.PositionLaws.{list_any-at}
use Rattle.board_model.specs.declared.boards.Heard.{Heard}
use Rattle.clusters.specs.Inflow.{no_sense, sense_of}
use Rattle.clusters.specs.Sound.{cluster_lists}
use Rattle.control_flow.specs.Greens.{IsLawful, end_of, row_at}
use Rattle.control_flow.specs.Recalls.{recalled}
use Rattle.control_flow.specs.Timelines.{AreServings}
use Rattle.control_flow.specs.declared.greens.Green.{Green}
use Rattle.control_flow.proofs.RecallLaws.{length-recalled, recalled-at}
use Rattle.control_flow.proofs.SpliceLaws.{continued, row-of-head}
use Rattle.control_flow.proofs.MakingLaws.{line_of-line, rotation_of-line}
use Rattle.intersection_actor.specs.Commits.{Commitment, IsCommit, is_recalled, line_for, phases_of, plan_by, round_plan}
use Rattle.intersection_actor.specs.Rounds.{first_head}
use Rattle.intersection_actor.proofs.ArrivalLaws.{window-soon}
use Rattle.net_parts.proofs.OutlineLaws.{run-by}
use Rattle.net_parts.specs.Limits.{most_seconds}
use Rattle.net_parts.specs.Numbers.{Net}
use Rattle.net_simulator.specs.Flow.{Cumulative, cumulative_under}
use Rattle.net_simulator.specs.Senses.{link_sense}
use Rattle.net_simulator.specs.Sums.{end_of_run}
use Rattle.net_simulator.specs.Worlds.{signs_by}
use Rattle.net_simulator.proofs.AtNodes.{past-at-nodes}
use Rattle.net_parts.specs.Outline.{link_at, phase_links_at, plan_at}
use Rattle.phase_plan.specs.Phases.{IsRing, is_unmarked_at, no_phase}
use Rattle.phase_plan.specs.declared.Phase.{Phase}
use Rattle.road_net.specs.Network.{IsNetwork, entry_links}
use Rattle.road_net.specs.declared.senses.LinkSense.{LinkSense}
use Rattle.road_net.specs.declared.senses.Sensed.{Sensed}
use Rattle.schedule_meaning.specs.Instances.{counts_of}
use Rattle.schedule_meaning.specs.declared.planners.Answer.{Answer}
use Rattle.schedule_meaning.specs.declared.planners.Answer.TheVariants.{Plan, NoPlan}
use Rattle.signal_safety.proofs.Lines.{plan-is}
use Rattle.signal_safety.proofs.Rounds.{IsLine, IsNext, IsSoonHead, rotation-next, shows}
use Rattle.switch_rules.specs.Sequences.{AreNextServings}
use Rattle.switch_rules.specs.Serving.{IsHead}
use Rattle.switch_rules.specs.declared.Head.{Head}
use Rattle.switch_rules.specs.declared.Served.{Served}
use Rattle.runs.specs.Runs.{AllCommit, line_before, cumulative_by, sensed_in, shown_by}
use Rattle.runs.proofs.Keep as keep
use Rattle.runs.proofs.Keep.{all-keep}
use Rattle.waits.specs.Bounds.{planned_bounds, until_recalled}
use Rattle.waits.specs.Discharges.{AreEmptied, AreWaitsWithin, AreWholeLines, Discharges, intergreens_of, recalled_wait, wait_bounds}
use Rattle.waits.proofs.BoundLaws.{bound-is, empties, has-bound, node-inside, waits-within}
use Rattle.waits.proofs.Recalling.{HasStood, RecallRounds, freed, lawful-fewer, recalled-waits}
use Rattle.waits.proofs.Seen.{entry-of, found-of}
use Rattle.waits.specs.Rounds.{AreRounds, IsRound}
use Rattle.waits.specs.Waits.{BeginSoon, AreIntergreensWithin, longest_intergreen}
use Rattle.waits.proofs.Splices.{splice-begins}
use Rattle.waits.proofs.Intergreens.{intergreens-same, line-intergreens, turned-intergreens}
use Rattle.waits.proofs.Rounds.{kept}
use Rattle.waits.proofs.Soon.{next-soon}

next-intergreens : (plan : List Phase) (head : Head) (answer : Answer) (served : List Served) (by look until : ℕ) → IsRing plan → IsHead plan head → head.at ≤ 104000
    → AreServings plan head (phases_of answer) served → by ≤ head.at + look → BeginSoon plan by head (phases_of answer) served → AreIntergreensWithin (longest_intergreen plan look) (line_for plan head answer served until)
next-intergreens plan head (Plan sequence delay) served by look until p h reach are near soon = line-intergreens plan look p sequence served head by until h reach are near soon
next-intergreens plan head NoPlan served by look until p h reach are near soon = turned-intergreens plan look (is_unmarked_at plan) head _ until

next-ends : (plan : List Phase) (head : Head) (answer : Answer) (served : List Served) (until : ℕ) → IsRing plan → IsHead plan head → head.at ≤ 104000 → AreServings plan head (phases_of answer) served → until < end_of (line_for plan head answer served until)
next-ends plan head (Plan sequence delay) served until p h reach are = (line_of-line plan sequence served head until p h reach are).end
next-ends plan head NoPlan served until p h reach are = (rotation_of-line plan head until p h reach).end

-- a phase that is recalled has the intergreen that it had
module _ (net : Net) (node : ℕ) (sensed : Sensed) (look : ℕ) where
  intergreen-recalled : (plan : List Phase) (is_recalled : ℕ → Bool) (k : ℕ) → longest_intergreen (recalled plan is_recalled) look k ≡ longest_intergreen plan look k
  intergreen-recalled plan is_recalled k = elim (cases_lt k (length plan)) [
    | inl below ↦ ap (λ (p : Phase). max (p.yellow + p.clear) look) (recalled-at plan is_recalled k below)
    | inr past ↦ ap (λ (p : Phase). max (p.yellow + p.clear) look) (get_or_past (recalled plan is_recalled) k no_phase (omega (arith, past, length-recalled plan is_recalled)) ∙ sym (get_or_past plan k no_phase past))
  ]

  intergreen-by : (o : Option ℕ) (k : ℕ) → longest_intergreen (plan_by net node sensed o) look k ≡ longest_intergreen (plan_at net node) look k
  intergreen-by None k = refl
  intergreen-by (Some recall) k = intergreen-recalled (plan_at net node) (is_recalled net node sensed recall) k

  intergreen-round : (k : ℕ) → longest_intergreen (round_plan net node sensed) look k ≡ longest_intergreen (plan_at net node) look k
  intergreen-round = intergreen-by net.run.recall

module _ (net : Net) (network : IsNetwork net) (node : ℕ) (below : node < length net.node_names) where
  plan : IsRing (plan_at net node)
  plan = plan-is net network node below

  module _ (round : ℕ) (old : List Green) (sensed : Sensed) (heard : List Heard) (c : Commitment) (early : sensed.now ≤ most_seconds) (line : IsLine (plan_at net node) old) (is : IsCommit net node round old sensed heard c) where
    -- the phases of the round
    abbrev phases : List Phase
    phases = round_plan net node sensed

    phases-plan : IsRing phases
    phases-plan = keep.phases-plan net network node below round old sensed heard c early line is

    phases-head : IsSoonHead phases c.head
    phases-head = keep.phases-head net network node below round old sensed heard c early line is

    served-next : AreNextServings phases (cluster_lists c.window.lists) (counts_of (cluster_lists c.window.lists)) c.head (phases_of c.answer) c.served
    served-next = keep.served-next net network node below round old sensed heard c early line is

    servings : AreServings phases c.head (phases_of c.answer) c.served
    servings = keep.servings net network node below round old sensed heard c early line is

    own : IsNext phases c.head c.next
    own = keep.own net network node below round old sensed heard c early line is

    pub next : IsNext (plan_at net node) c.head c.next
    next = keep.next net network node below round old sensed heard c early line is

    -- where a phase is recalled they are lawful where it has no mark
    pub next-free : (recall k : ℕ) → net.run.recall ≡ Some recall → is_recalled net node sensed recall k ≡ true → IsLawful (freed (plan_at net node) k) c.next
    next-free recall k has asked =
        let recalls : ℕ → Bool = is_recalled net node sensed recall in
        lawful-fewer (plan_at net node) (λ j. j == k) recalls (λ j same. subst (λ (n : ℕ). recalls n ≡ true) (sym (eqb-true j k same)) asked) c.next
        (subst (λ (o : Option ℕ). IsLawful (plan_by net node sensed o) c.next) has own.line.lawful)

    -- new greens begin within the look ahead, or as early as they can
    pub intergreens : AreIntergreensWithin (longest_intergreen (plan_at net node) net.run.look) c.next
    intergreens =
        let soon = next-soon phases (cluster_lists c.window.lists) (sensed.now + net.run.look) (window-soon net node c.head sensed heard c.platoons c.window is.problem.expected is.problem.taken)
        (phases_of c.answer) (counts_of (cluster_lists c.window.lists)) c.head c.served served-next in
        let later = (row-of-head (plan_at net node) old sensed.now c.head is.problem.at).later in
        let own : AreIntergreensWithin (longest_intergreen phases net.run.look) c.next = subst (AreIntergreensWithin (longest_intergreen phases net.run.look)) (sym is.next)
        (next-intergreens phases c.head c.answer c.served (sensed.now + net.run.look) net.run.look (sensed.now + net.run.look) phases-plan phases-head.is (omega (arith, phases-head.reach)) servings (omega (arith, later)) soon) in
        intergreens-same (longest_intergreen phases net.run.look) (longest_intergreen (plan_at net node) net.run.look) (intergreen-round net node sensed net.run.look) c.next own

    pub ends-late : sensed.now + net.run.look < end_of c.line
    ends-late =
        let after : sensed.now + net.run.look < end_of c.next = subst (λ (rows : List Green). sensed.now + net.run.look < end_of rows) (sym is.next)
        (next-ends phases c.head c.answer c.served (sensed.now + net.run.look) phases-plan phases-head.is (omega (arith, phases-head.reach)) servings) in
        let continues = continued (plan_at net node) old sensed.now c.head c.next plan line.lawful is.problem.at next.line.lawful next.goes in
        omega (arith, after, continues.end, ap end_of is.line)

    abbrev pub goes-on : IsRound (plan_at net node) (longest_intergreen (plan_at net node) net.run.look) sensed.now old c.line
    goes-on = record { head = c.head; next = c.next; at = is.problem.at; goes = next.goes; lawful = next.line.lawful; intergreens = intergreens; line = is.line }

-- what is sensed of a link at a node is what is seen of it
seen-of : (net : Net) (past : ℕ → ℕ → Cumulative) (n : ℕ) (links : List ℕ) (l : ℕ) → Contains links l → (let s : Sensed = record { now = n; links = map (link_sense net past n) links } in sense_of s l) ≡ link_sense net past n l
unfolding sense_of
seen-of net past n links l contained = ap (λ (o : Option LinkSense). unwrap_or o no_sense) (found-of net past n links l contained)

-- within how many seconds a network recalls
recall-of : (net : Net) (seconds : ℕ) → until_recalled net ≡ Some seconds → (recall : ℕ) × (net.run.recall ≡ Some recall) × (recall + net.run.step ≡ seconds)
recall-of net seconds e = by net.run.recall e
  where
    by : (o : Option ℕ) → option_map (λ recall. recall + net.run.step) o ≡ Some seconds → (recall : ℕ) × (o ≡ Some recall) × (recall + net.run.step ≡ seconds)
    by None is = absurd (none-some seconds is)
    by (Some recall) is = (recall, refl, same_Some (recall + net.run.step) seconds is)

-- the rounds of a run
module _ (net : Net) (network : IsNetwork net) (arriving : ℕ → ℕ → ℕ) (heard : ℕ → ℕ → List Heard) (made : ℕ → ℕ → Commitment) (commits : AllCommit net arriving heard made net.run.rounds) (node : ℕ) (below : node < length net.node_names) where
  early : (r : ℕ) → r < net.run.rounds → r * net.run.step ≤ most_seconds
  early r less = run-by net.run network.outline.run r (omega (arith, less))

  first-line : IsLine (plan_at net node) (line_before net made 0 node)
  first-line =
      let p = plan-is net network node below in
      let count = p.count.0 in
      (rotation-next (plan_at net node) first_head 0 p (record { is = record { phase = omega (arith, count); begun = omega arith; within = omega arith }; since = omega arith; reach = omega arith }) (omega arith)).line

  line-is : (r : ℕ) → r ≤ net.run.rounds → IsLine (plan_at net node) (line_before net made r node)
  line-is zero few = first-line
  line-is (suc r) few = (all-keep net network arriving heard made net.run.rounds (omega arith) commits r node (omega (arith, few)) below).line

  rounds-are : AreRounds (plan_at net node) (longest_intergreen (plan_at net node) net.run.look) net.run.rounds (λ r. r * net.run.step) (λ r. line_before net made r node)
  rounds-are = record {
    lawful = first-line.lawful;
    intergreens = turned-intergreens (plan_at net node) net.run.look (is_unmarked_at (plan_at net node)) first_head _ 0;
    each = λ r less. goes-on net network node below r (line_before net made r node) (sensed_in net arriving made r node) (heard r node) (made r node) (early r less) (line-is r (omega (arith, less))) (commits r node less below).commit;
  }

  pub last-line : IsLawful (plan_at net node) (line_before net made net.run.rounds node) × AreIntergreensWithin (longest_intergreen (plan_at net node) net.run.look) (line_before net made net.run.rounds node)
  last-line = kept (plan_at net node) (plan-is net network node below) (longest_intergreen (plan_at net node) net.run.look) net.run.rounds (λ r. r * net.run.step) (λ r. line_before net made r node) rounds-are net.run.rounds (omega arith)

  -- each line begins with second 0, and the last ends after the run
  begins-first : (r : ℕ) → r ≤ net.run.rounds → (row_at (line_before net made r node) 0).from ≡ 0
  begins-first zero few = refl
  begins-first (suc r) few =
      let one = rounds-are.each r (omega (arith, few)) in
      splice-begins (plan_at net node) (plan-is net network node below) (longest_intergreen (plan_at net node) net.run.look) (r * net.run.step) (line_before net made r node) (line_before net made (suc r) node) (line-is r (omega (arith, few))).lawful one
      ∙ begins-first r (omega (arith, few))

  ends-last : end_of_run net < end_of (line_before net made net.run.rounds node)
  ends-last = by net.run.rounds network.outline.run.rounds.0 (omega arith)
    where
      by : (r : ℕ) → 1 ≤ r → r ≤ net.run.rounds → r * net.run.step < end_of (line_before net made r node)
      by zero some few = absurd (omega (arith, some))
      by (suc r) some few =
          let late = ends-late net network node below r (line_before net made r node) (sensed_in net arriving made r node) (heard r node) (made r node) (early r (omega (arith, few))) (line-is r (omega (arith, few))) (commits r node (omega (arith, few)) below).commit in
          omega (arith, late, suc-mul r net.run.step, network.outline.run.within)

  -- a link at the node whose phase is recalled where its queue has stood for long
  module _ (recall : ℕ) (has : net.run.recall ≡ Some recall) (l : ℕ) (inside : l < length net.link_names) (ends : (link_at net l).to ≡ Some node) where
    abbrev past-before : ℕ → ℕ → ℕ → Cumulative
    past-before r = cumulative_by net arriving made (r * net.run.step)

    asked : (r : ℕ) → HasStood net (past-before r) (r * net.run.step) recall l → is_recalled net node (sensed_in net arriving made r node) recall (link_at net l).phase ≡ true
    asked r stood =
        let sensed = sensed_in net arriving made r node in
        let at = (network.served.entries l node inside ends).1 in
        let seen : sense_of sensed l ≡ link_sense net (past-before r) (r * net.run.step) l = seen-of net (past-before r) (r * net.run.step) (entry_links net node) l (entry-of net network l node inside ends) in
        let test : ℕ → Bool = λ k. leb recall (sense_of sensed k).stood in
        list_any-at test (phase_links_at net node (link_at net l).phase) at.0 l at.1 (ap test at.2 ∙ le-leb recall (sense_of sensed l).stood (omega (arith, stood.long, ap (λ (s : LinkSense). s.stood) seen)))

    pub recall-rounds : RecallRounds net arriving (shown_by net made) (line_before net made) (longest_intergreen (plan_at net node) net.run.look) net.run.rounds net.run.step recall l node
    recall-rounds = record {
      some = network.outline.run.step.0;
      shows = λ r x n few soon at. shows net network (line_before net made) net.run.rounds (all-keep net network arriving heard made net.run.rounds (omega arith) commits) r few x n at (div_below x net.run.step r network.outline.run.step.0 soon);
      lawful = first-line.lawful;
      intergreens = rounds-are.intergreens;
      begins = begins-first;
      later = λ r less.
          let late = ends-late net network node below r (line_before net made r node) (sensed_in net arriving made r node) (heard r node) (made r node) (early r less) (line-is r (omega (arith, less))) (commits r node less below).commit in
          omega (arith, late, suc-mul r net.run.step, network.outline.run.within);
      each = λ r less.
          let commit = (commits r node less below).commit in
          let line = line-is r (omega (arith, less)) in
          record {
            one = goes-on net network node below r (line_before net made r node) (sensed_in net arriving made r node) (heard r node) (made r node) (early r less) line commit;
            freely = λ stood. next-free net network node below r (line_before net made r node) (sensed_in net arriving made r node) (heard r node) (made r node) (early r less) line commit recall (link_at net l).phase has (asked r stood);
          };
    }

-- the last lines cover the run, and it moved by them
module _ (net : Net) (network : IsNetwork net) (arriving : ℕ → ℕ → ℕ) (heard : ℕ → ℕ → List Heard) (made : ℕ → ℕ → Commitment) (commits : AllCommit net arriving heard made net.run.rounds) where
  pub covers : AreWholeLines net (intergreens_of net net.run.look) (end_of_run net) (line_before net made net.run.rounds)
  covers node below =
      let last = last-line net network arriving heard made commits node below in
      record {
        lawful = last.0;
        intergreens = last.1;
        begins = begins-first net network arriving heard made commits node below net.run.rounds (omega arith);
        ends = ends-last net network arriving heard made commits node below;
      }

  same-past : cumulative_under net arriving (signs_by (line_before net made net.run.rounds)) (end_of_run net) ≡ cumulative_by net arriving made (end_of_run net)
  same-past = past-at-nodes net network arriving (signs_by (line_before net made net.run.rounds)) (shown_by net made) (end_of_run net)
      (λ x n less inside. shows net network (line_before net made) net.run.rounds (all-keep net network arriving heard made net.run.rounds (omega arith) commits) net.run.rounds (omega arith) x n inside (div_below x net.run.step net.run.rounds network.outline.run.step.0 less))

  unmarked-waits : AreWaitsWithin net (wait_bounds net (intergreens_of net net.run.look)) (cumulative_by net arriving made (end_of_run net)) (end_of_run net)
  unmarked-waits = subst (λ (past : ℕ → ℕ → Cumulative). AreWaitsWithin net (wait_bounds net (intergreens_of net net.run.look)) past (end_of_run net)) same-past
      (waits-within net network arriving (line_before net made net.run.rounds) (intergreens_of net net.run.look) (end_of_run net) covers)

  -- and marked phases where they are recalled
  pub run-waits : AreWaitsWithin net (planned_bounds net) (cumulative_by net arriving made (end_of_run net)) (end_of_run net)
  run-waits l node wait n inside ends plain bound room stands =
      let plan = plan_at net node in
      let intergreen = longest_intergreen plan net.run.look in
      elim (has-bound plan intergreen (until_recalled net) (link_at net l).phase wait bound) [
        | inl has ↦ unmarked-waits l node wait n inside ends plain (bound-is plan intergreen (link_at net l).phase wait has) room stands
        | inr has ↦
            let (recall, some, until) = recall-of net has.seconds has.until in
            let most : recalled_wait plan intergreen (recall + net.run.step) (link_at net l).phase ≡ wait = ap (λ (s : ℕ). recalled_wait plan intergreen s (link_at net l).phase) until ∙ has.is in
            let below = node-inside net network l node inside ends in
            subst (λ (w : ℕ). Discharges (cumulative_by net arriving made (end_of_run net)) l n (n + w)) most
            (recalled-waits net network arriving (shown_by net made) (line_before net made) intergreen net.run.rounds net.run.step recall l node inside ends plain (recall-rounds net network arriving heard made commits node below recall some l inside ends) has.long n (end_of_run net)
            (omega (arith, room, most)) (omega arith) stands)
      ]

  pub run-empties : AreEmptied net (intergreens_of net net.run.look) (cumulative_by net arriving made (end_of_run net)) (end_of_run net)
  run-empties = subst (λ (past : ℕ → ℕ → Cumulative). AreEmptied net (intergreens_of net net.run.look) past (end_of_run net)) same-past
      (empties net network arriving (line_before net made net.run.rounds) (intergreens_of net net.run.look) (end_of_run net) covers)
