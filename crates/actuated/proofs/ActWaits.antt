-- Each round under actuated control continues the lines of the nodes with yellow and all-red alone.
use Rattle.std.proofs.Common.{◌≡◌, ℕ, zero, suc, ◌+◌, ◌*◌, ◌<◌, ◌≤◌, true, List, Some, length, slice_index, refl, ap, subst, ◌∙◌, inl, inr, arith, suc-mul}
use Rattle.std.proofs.lemmas.Bool.{lt-ltb}
use Rattle.std.proofs.lemmas.List.FromFn.{get_or-map-range_with_len}
use Rattle.std.proofs.lemmas.List.Sums.{sum_by_more_le}
use Rattle.std.proofs.lemmas.Nat.{div_below, mul-le}
use Rattle.std.proofs.lemmas.Option.{same_Some}
use Rattle.actuated.specs.ActRuns.{AllAct, IsNextLine, calls_at, first_line, cumulative_by, shown_in}
use Rattle.actuated.specs.ActSteps.{act_rounds, act_step}
use Rattle.actuated.specs.Calls.{act_line, amount_near, calling, held_until}
use Rattle.actuated.proofs.ActStepLaws.{act-rounds, begins-by}
use Rattle.actuated.proofs.LineLaws.{act-next, ends-between, first-is-line, next-keeps}
use Rattle.actuated.proofs.NearLaws.{seen-of}
use Rattle.clusters.specs.Inflow.{sense_of}
use Rattle.control_flow.specs.Greens.{IsLawful, end_of, row_at}
use Rattle.control_flow.proofs.SpliceLaws.{continued}
use Rattle.control_flow.proofs.TurningLaws.{passes-called, turned-line}
use Rattle.control_flow.specs.Timelines.{calls_for, first_head, stops_at}
use Rattle.control_flow.specs.declared.greens.Green.{Green}
use Rattle.control_flow.specs.declared.greens.Sign.{Sign}
use Rattle.net_parts.specs.Limits.{most_seconds}
use Rattle.net_parts.specs.Numbers.{Net}
use Rattle.net_parts.specs.Outline.{link_at, phase_links_at, plan_at}
use Rattle.net_simulator.specs.Flow.{Cumulative, cumulative_under, queue}
use Rattle.net_simulator.specs.Senses.{link_sense, near_of, sense}
use Rattle.net_simulator.specs.Sums.{end_of_run}
use Rattle.net_simulator.specs.Worlds.{signs_by}
use Rattle.net_simulator.proofs.AtNodes.{past-at-nodes}
use Rattle.phase_plan.specs.Phases.{IsRing, is_unmarked_at}
use Rattle.road_net.specs.Network.{IsNetwork, entry_links}
use Rattle.road_net.specs.declared.senses.LinkSense.{LinkSense}
use Rattle.signal_safety.specs.Rounds.{line_before}
use Rattle.signal_safety.proofs.Lines.{plan-is}
use Rattle.signal_safety.proofs.Rounds.{AllKeepEvery, IsLine, all-keep-every, head-of, shows-every}
use Rattle.switch_rules.specs.Serving.{earliest_end}
use Rattle.waits.specs.Rounds.{AreRounds, IsRound}
use Rattle.waits.specs.Bounds.{actuated_bounds, until_called}
use Rattle.waits.specs.Discharges.{AreEmptied, AreWaitsWithin, AreWholeLines, Discharges, intergreens_of, recalled_wait, wait_bounds}
use Rattle.waits.specs.Waits.{AreIntergreensWithin, longest_intergreen}
use Rattle.waits.proofs.BoundLaws.{bound-is, empties, has-bound, node-inside, waits-within}
use Rattle.waits.proofs.Called.{turned-free}
use Rattle.waits.proofs.Intergreens.{turned-intergreens}
use Rattle.waits.proofs.Recalling.{RecallRounds, freed, recalled-waits}
use Rattle.waits.proofs.Rounds.{kept}
use Rattle.waits.proofs.Seen.{entry-of}
use Rattle.waits.proofs.Splices.{splice-begins}

module _ (net : Net) (network : IsNetwork net) (under : (ℕ → ℕ → Sign) → ℕ → ℕ → ℕ → Cumulative) (made : ℕ → ℕ → List Green) (acts : AllAct net under made (act_rounds net)) (node : ℕ) (below : node < length net.node_names) where
  plan : IsRing (plan_at net node)
  plan = plan-is net network node below

  abbrev line : ℕ → List Green
  line r = line_before (first_line net) made r node

  abbrev goes-on : (past : ℕ → ℕ → Cumulative) (n : ℕ) (old new : List Green) → n ≤ most_seconds → IsLine (plan_at net node) old → IsNextLine net past n node old new → IsRound (plan_at net node) (longest_intergreen (plan_at net node) 0) n old new
  goes-on past n old new soon is next =
      let look = network.outline.run.look.1 in
      let head = head-of (plan_at net node) old n next.head is (omega (arith, soon)) next.at in
      let calls = calls_at net past n node in
      let of = act-next (plan_at net node) next.head calls (n + net.run.look) plan head (omega (arith, soon, look)) in
      record { head = next.head; next = act_line (plan_at net node) next.head calls (n + net.run.look); at = next.at; goes = of.goes; lawful = of.line.lawful; intergreens = turned-intergreens (plan_at net node) 0 (stops_at (plan_at net node) calls) next.head (held_until (plan_at net node) next.head calls) (n + net.run.look); line = next.is }

  line-is : (r : ℕ) → r ≤ act_rounds net → IsLine (plan_at net node) (line r)
  line-is zero few = first-is-line net network node below
  line-is (suc r) few = (next-keeps net network node below (under (shown_in net made) (r * act_step net)) (r * act_step net) (line r) (line (suc r)) (begins-by net network r (omega (arith, few))) (line-is r (omega (arith, few))) (acts r node (omega (arith, few)) below)).line

  rounds-are : AreRounds (plan_at net node) (longest_intergreen (plan_at net node) 0) (act_rounds net) (λ r. r * act_step net) line
  rounds-are = record {
    lawful = (first-is-line net network node below).lawful;
    intergreens = turned-intergreens (plan_at net node) 0 (is_unmarked_at (plan_at net node)) first_head (earliest_end (plan_at net node) first_head) 0;
    each = λ r less. goes-on (under (shown_in net made) (r * act_step net)) (r * act_step net) (line r) (line (suc r)) (begins-by net network r less) (line-is r (omega (arith, less))) (acts r node less below);
  }

  pub last-line : IsLawful (plan_at net node) (line (act_rounds net)) × AreIntergreensWithin (longest_intergreen (plan_at net node) 0) (line (act_rounds net))
  last-line = kept (plan_at net node) plan (longest_intergreen (plan_at net node) 0) (act_rounds net) (λ r. r * act_step net) line rounds-are (act_rounds net) (omega arith)

  -- each line begins with second 0, and the last ends after the run
  begins-first : (r : ℕ) → r ≤ act_rounds net → (row_at (line r) 0).from ≡ 0
  begins-first zero few = refl
  begins-first (suc r) few =
      let one = rounds-are.each r (omega (arith, few)) in
      splice-begins (plan_at net node) plan (longest_intergreen (plan_at net node) 0) (r * act_step net) (line r) (line (suc r)) (line-is r (omega (arith, few))).lawful one ∙ begins-first r (omega (arith, few))

  ends-late : (past : ℕ → ℕ → Cumulative) (n : ℕ) (old new : List Green) → n ≤ most_seconds → IsLine (plan_at net node) old → IsNextLine net past n node old new → n + net.run.look < end_of new
  ends-late past n old new soon is next =
      let look = network.outline.run.look.1 in
      let head = head-of (plan_at net node) old n next.head is (omega (arith, soon)) next.at in
      let calls = calls_at net past n node in
      let to : ℕ = held_until (plan_at net node) next.head calls in
      let ends = ends-between (plan_at net node) next.head calls plan head.is in
      let of = turned-line (plan_at net node) (stops_at (plan_at net node) calls) plan (passes-called (plan_at net node) calls) next.head to (n + net.run.look) head.is (omega (arith, head.reach)) (omega (arith, ends.0)) ends.1 (omega (arith, ends.0)) in
      let continues = continued (plan_at net node) old n next.head (act_line (plan_at net node) next.head calls (n + net.run.look)) plan is.lawful next.at of.lawful of.begin in
      omega (arith, of.end, continues.end, ap end_of next.is)

  ends-last : end_of_run net < end_of (line (act_rounds net))
  ends-last = by (act_rounds net) (omega arith) (act-rounds net network).whole
    where
      by : (r : ℕ) → r ≤ act_rounds net → r * act_step net ≡ end_of_run net → end_of_run net < end_of (line r)
      by zero few whole =
          let some : 1 ≤ end_of_run net = mul-le 1 1 net.run.rounds net.run.step network.outline.run.rounds.0 network.outline.run.step.0 in
          absurd (omega (arith, whole, some))
      by (suc r) few whole =
          let late = ends-late (under (shown_in net made) (r * act_step net)) (r * act_step net) (line r) (line (suc r)) (begins-by net network r (omega (arith, few))) (line-is r (omega (arith, few))) (acts r node (omega (arith, few)) below) in
          omega (arith, late, whole, suc-mul r (act_step net), (act-rounds net network).within, network.outline.run.within)

-- a link whose queue stands calls for its phase
module _ (net : Net) (network : IsNetwork net) (past : ℕ → ℕ → Cumulative) (n node l : ℕ) (inside : l < length net.link_names) (ends : (link_at net l).to ≡ Some node) where
  abbrev k : ℕ
  k = (link_at net l).phase

  pub queue-calls : 0 < queue net past n l → calls_for (calls_at net past n node) k ≡ true
  queue-calls stands =
      let sensed = sense net past n node in
      let entry = network.served.entries l node inside ends in
      let links = phase_links_at net node k in
      let seen : sense_of sensed l ≡ link_sense net past n l = seen-of net past n (entry_links net node) l (entry-of net network l node inside ends) in
      let near : ℕ → ℕ = amount_near sensed net.run.gap in
      let more = sum_by_more_le near links entry.1.0 l entry.1.1 in
      let own = ap near entry.1.2 ∙ ap (λ (s : LinkSense). near_of s net.run.gap) seen in
      let at = get_or-map-range_with_len (calling net node sensed) 0 (length (plan_at net node)) k k 0 entry.0 (omega arith) in
      lt-ltb 0 (slice_index (calls_at net past n node) k) (omega (arith, at, more, own, stands))

-- so in each round in which it stands the ring stops at its phase
module _ (net : Net) (network : IsNetwork net) (arriving : ℕ → ℕ → ℕ) (made : ℕ → ℕ → List Green) (acts : AllAct net (cumulative_under net arriving) made (act_rounds net)) (node : ℕ) (below : node < length net.node_names)
    (l : ℕ) (inside : l < length net.link_names) (ends : (link_at net l).to ≡ Some node) where
  next-free : (past : ℕ → ℕ → Cumulative) (n : ℕ) (old new : List Green) (soon : n ≤ most_seconds) (is : IsLine (plan_at net node) old) (next : IsNextLine net past n node old new)
      → calls_for (calls_at net past n node) (link_at net l).phase ≡ true → IsLawful (freed (plan_at net node) (link_at net l).phase) (act_line (plan_at net node) next.head (calls_at net past n node) (n + net.run.look))
  next-free past n old new soon is next called =
      let p = plan-is net network node below in
      let head = head-of (plan_at net node) old n next.head is (omega (arith, soon)) next.at in
      let calls = calls_at net past n node in
      let to = ends-between (plan_at net node) next.head calls p head.is in
      turned-free (plan_at net node) p calls (link_at net l).phase called next.head (held_until (plan_at net node) next.head calls) (n + net.run.look) head.is (omega (arith, head.reach)) (omega (arith, to.0)) to.1 (omega (arith, to.0))

  pub call-rounds : AllKeepEvery net (act_step net) (line_before (first_line net) made) (act_rounds net)
      → RecallRounds net arriving (shown_in net made) (line_before (first_line net) made) (longest_intergreen (plan_at net node) 0) (act_rounds net) (act_step net) 0 l node
  call-rounds keep = record {
    some = (act-rounds net network).some;
    shows = λ r x n few soon at. shows-every net (act_step net) (act-rounds net network).some (line_before (first_line net) made) (act_rounds net) keep r few x n at (div_below x (act_step net) r (act-rounds net network).some soon);
    lawful = (first-is-line net network node below).lawful;
    intergreens = turned-intergreens (plan_at net node) 0 (is_unmarked_at (plan_at net node)) first_head (earliest_end (plan_at net node) first_head) 0;
    begins = begins-first net network (cumulative_under net arriving) made acts node below;
    later = λ r less.
        let late = ends-late net network (cumulative_under net arriving) made acts node below (cumulative_under net arriving (shown_in net made) (r * act_step net)) (r * act_step net) (line_before (first_line net) made r node) (line_before (first_line net) made (suc r) node)
        (begins-by net network r less) (line-is net network (cumulative_under net arriving) made acts node below r (omega (arith, less))) (acts r node less below) in
        omega (arith, late, suc-mul r (act_step net), (act-rounds net network).within, network.outline.run.within);
    each = λ r less.
        let past = cumulative_under net arriving (shown_in net made) (r * act_step net) in
        let old = line_before (first_line net) made r node in
        let line = line-is net network (cumulative_under net arriving) made acts node below r (omega (arith, less)) in
        record {
          one = goes-on net network (cumulative_under net arriving) made acts node below past (r * act_step net) old (made r node) (begins-by net network r less) line (acts r node less below);
          freely = λ stood. next-free past (r * act_step net) old (made r node) (begins-by net network r less) line (acts r node less below) (queue-calls net network past (r * act_step net) node l inside ends stood.stands);
        };
  }

-- the seconds of a round are those in which a queue calls
step-called : (net : Net) → act_step net ≡ until_called net
unfolding act_step
step-called net = refl

-- the last lines cover the run
pub covers : (net : Net) → IsNetwork net → (under : (ℕ → ℕ → Sign) → ℕ → ℕ → ℕ → Cumulative) (made : ℕ → ℕ → List Green) → AllAct net under made (act_rounds net)
    → AreWholeLines net (intergreens_of net 0) (end_of_run net) (line_before (first_line net) made (act_rounds net))
covers net network under made acts node below =
    let last = last-line net network under made acts node below in
    record {
      lawful = last.0;
      intergreens = last.1;
      begins = begins-first net network under made acts node below (act_rounds net) (omega arith);
      ends = ends-last net network under made acts node below;
    }

-- and the world without a store moved by them
module _ (net : Net) (network : IsNetwork net) (arriving : ℕ → ℕ → ℕ) (made : ℕ → ℕ → List Green) (acts : AllAct net (cumulative_under net arriving) made (act_rounds net)) where
  keep : AllKeepEvery net (act_step net) (line_before (first_line net) made) (act_rounds net)
  keep = all-keep-every net (act_step net) (line_before (first_line net) made) (act_rounds net) (begins-by net network) (first-is-line net network)
      (λ r n less inside soon is. next-keeps net network n inside (cumulative_under net arriving (shown_in net made) (r * act_step net)) (r * act_step net) (line_before (first_line net) made r n) (made r n) soon is (acts r n less inside))

  same-past : cumulative_under net arriving (signs_by (line_before (first_line net) made (act_rounds net))) (end_of_run net) ≡ cumulative_by net arriving made
  same-past = past-at-nodes net network arriving (signs_by (line_before (first_line net) made (act_rounds net))) (shown_in net made) (end_of_run net)
      (λ x n less inside. shows-every net (act_step net) (act-rounds net network).some (line_before (first_line net) made) (act_rounds net) keep (act_rounds net) (omega arith) x n inside
      (div_below x (act_step net) (act_rounds net) (act-rounds net network).some (omega (arith, less, (act-rounds net network).whole))))

  unmarked-waits : AreWaitsWithin net (wait_bounds net (intergreens_of net 0)) (cumulative_by net arriving made) (end_of_run net)
  unmarked-waits = subst (λ (past : ℕ → ℕ → Cumulative). AreWaitsWithin net (wait_bounds net (intergreens_of net 0)) past (end_of_run net)) same-past
      (waits-within net network arriving (line_before (first_line net) made (act_rounds net)) (intergreens_of net 0) (end_of_run net) (covers net network (cumulative_under net arriving) made acts))

  -- and marked phases, which are called
  pub run-waits : AreWaitsWithin net (actuated_bounds net) (cumulative_by net arriving made) (end_of_run net)
  run-waits l node wait n inside ends plain bound room stands =
      let plan = plan_at net node in
      let intergreen = longest_intergreen plan 0 in
      elim (has-bound plan intergreen (Some (until_called net)) (link_at net l).phase wait bound) [
        | inl has ↦ unmarked-waits l node wait n inside ends plain (bound-is plan intergreen (link_at net l).phase wait has) room stands
        | inr has ↦
            let until : 0 + act_step net ≡ has.seconds = omega (arith, step-called net, same_Some (until_called net) has.seconds has.until) in
            let most : recalled_wait plan intergreen (0 + act_step net) (link_at net l).phase ≡ wait = ap (λ (s : ℕ). recalled_wait plan intergreen s (link_at net l).phase) until ∙ has.is in
            let below = node-inside net network l node inside ends in
            subst (λ (w : ℕ). Discharges (cumulative_by net arriving made) l n (n + w)) most
            (recalled-waits net network arriving (shown_in net made) (line_before (first_line net) made) intergreen (act_rounds net) (act_step net) 0 l node inside ends plain (call-rounds net network arriving made acts node below l inside ends keep) has.long n (end_of_run net)
            (omega (arith, room, most)) (omega (arith, (act-rounds net network).whole)) stands)
      ]

  pub run-empties : AreEmptied net (intergreens_of net 0) (cumulative_by net arriving made) (end_of_run net)
  run-empties = subst (λ (past : ℕ → ℕ → Cumulative). AreEmptied net (intergreens_of net 0) past (end_of_run net)) same-past
      (empties net network arriving (line_before (first_line net) made (act_rounds net)) (intergreens_of net 0) (end_of_run net) (covers net network (cumulative_under net arriving) made acts))
