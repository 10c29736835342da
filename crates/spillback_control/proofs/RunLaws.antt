-- How the rounds of a run in a world with a store go on, and what every such run keeps.
use Rattle.std.proofs.Common.{◌≡◌, ℕ, zero, suc, ◌+◌, ◌*◌, ◌<◌, ◌≤◌, List, length, [], sym, ap, subst, ◌∙◌, arith}
use Rattle.std.proofs.lemmas.List.FromFn.{fill_by_all, get_or-map-range_with_len}
use Rattle.std.proofs.lemmas.Nat.{div_below}
use Rattle.audit.specs.Audits.{AreLawful}
use Rattle.control_flow.specs.Greens.{IsLawful}
use Rattle.control_flow.specs.Signs.{sign_at}
use Rattle.control_flow.specs.declared.greens.Green.{Green}
use Rattle.net_parts.specs.Limits.{most_seconds}
use Rattle.net_parts.specs.Numbers.{Net}
use Rattle.net_parts.specs.Outline.{plan_at}
use Rattle.net_simulator.specs.Sums.{end_of_run}
use Rattle.net_simulator.specs.Worlds.{line_in, signs_by}
use Rattle.road_net.specs.Network.{IsNetwork}
use Rattle.signal_safety.specs.Rounds.{line_before}
use Rattle.signal_safety.specs.Safe.{IsSafe}
use Rattle.signal_safety.proofs.Lines.{safe}
use Rattle.signal_safety.proofs.Rounds.{AllKeepEvery, IsLine, all-keep-every, shows-every}
use Rattle.actuated.specs.ActRuns.{first_line, shown_in}
use Rattle.actuated.specs.ActSteps.{act_rounds, act_step}
use Rattle.actuated.specs.Rounds.{AreFirstLines, AreRenewed}
use Rattle.actuated.specs.RunsSoFar.{AreNear}
use Rattle.actuated.proofs.ActStepLaws.{act-rounds, begins-by, one-round, time-for}
use Rattle.actuated.proofs.Acting.{more-acted, none-acted, same-before}
use Rattle.actuated.proofs.LineLaws.{first-is-line, next-keeps}
use Rattle.spillback_world.specs.StoredTotals.{stored_totals}
use Rattle.spillback_world.specs.Storage.{cumulative_in}
use Rattle.spillback_world.specs.Worlds.{SpillState, Stands, IsWorldOf}
use Rattle.spillback_world.specs.declared.totals.SpillTotals.{SpillTotals}
use Rattle.spillback_world.proofs.Shown.{past-same, stands-under}
use Rattle.spillback_control.specs.SpillRounds.{HaveSpilled}
use Rattle.spillback_control.specs.SpillRuns.{CountsLastLines, IsActuatedIn, IsSpillRun, LastLinesShow, last_lines}
use Rattle.spillback_control.specs.declared.records.SpillRun.{SpillRun}
use Rattle.arrivals.specs.Amounts.{Amounts, AreArrivals, arriving_of}
use Rattle.control_flow.specs.declared.greens.Sign.{Sign}

-- before the first round
pub none-spilled : (net : Net) (arriving : ℕ → ℕ → ℕ) (store : ℕ → ℕ) (lines : List (List Green)) (w : SpillState) → AreFirstLines net (length net.node_names) lines → w.second ≡ 0
    → ((shown : ℕ → ℕ → Sign) → Stands net arriving store shown w) → HaveSpilled net arriving store 0 lines w
none-spilled net arriving store lines w first second stands = record {
  acted = none-acted net (cumulative_in net arriving store) lines first;
  second = (let z : 0 ≡ 0 * act_step net = omega arith in second ∙ z);
  stands = stands (signs_by (line_in lines));
}

module _ (net : Net) (network : IsNetwork net) (arriving : ℕ → ℕ → ℕ) (store : ℕ → ℕ) (r : ℕ) (lines renewed : List (List Green)) (near : List ℕ) (w : SpillState) (a : HaveSpilled net arriving store r lines w) (are : AreRenewed net near w.second (length net.node_names) lines renewed) where
  then-renewed : AreRenewed net near (r * act_step net) (length net.node_names) lines renewed
  then-renewed = subst (λ s. AreRenewed net near s (length net.node_names) lines renewed) a.second are

  pub renewed-stands : Stands net arriving store (signs_by (line_in renewed)) w
  renewed-stands =
      stands-under net arriving store (signs_by (line_in lines)) (signs_by (line_in renewed)) w
      (λ x n less. sym (same-before net network (cumulative_in net arriving store) (past-same net arriving store) r lines renewed near a.acted then-renewed x n (omega (arith, a.second, less)))) a.stands

  pub room : r < act_rounds net → w.second + act_step net ≤ most_seconds
  room less = omega (arith, time-for net network r less, a.second)

  -- after a round more
  pub more-spilled : AreNear net (cumulative_in net arriving store (signs_by (line_in lines)) w.second) w.second near → (v : SpillState) → v.second ≡ w.second + act_step net → Stands net arriving store (signs_by (line_in renewed)) v → HaveSpilled net arriving store (r + 1) renewed v
  more-spilled sensed v second stands = record {
    acted = more-acted net network (cumulative_in net arriving store) (past-same net arriving store) r lines renewed near a.acted then-renewed
        (subst (λ s. AreNear net (cumulative_in net arriving store (signs_by (line_in lines)) s) s near) a.second sensed);
    second = omega (arith, second, a.second, one-round net r);
    stands = stands;
  }

-- the world of lines that have acted is one of the network
pub spilled-world : (net : Net) (arrivals : Amounts) (store : ℕ → ℕ) (r : ℕ) (lines : List (List Green)) (w : SpillState) → AreArrivals net arrivals → HaveSpilled net (arriving_of arrivals) store r lines w → IsWorldOf net w
spilled-world net arrivals store r lines w enter a = record { arrivals = arrivals; store = store; lines = line_in lines; enter = enter; stands = a.stands }

-- what is counted when all rounds are over
abbrev pub ended : (net : Net) → IsNetwork net → (arriving : ℕ → ℕ → ℕ) (store : ℕ → ℕ) (lines : List (List Green)) (w : SpillState) (t : SpillTotals) → HaveSpilled net arriving store (act_rounds net) lines w → t ≡ w.totals → IsActuatedIn net arriving store t
ended net network arriving store lines w t a is =
    let whole = (act-rounds net network).whole in
    record {
      made = a.acted.made;
      acts = a.acted.acts;
      are =
          is ∙ a.stands.totals ∙ ap (λ s. stored_totals net arriving (cumulative_in net arriving store (signs_by (line_in lines)) s) s) (a.second ∙ whole)
          ∙ ap (λ p. stored_totals net arriving p (end_of_run net)) (past-same net arriving store (signs_by (line_in lines)) (shown_in net a.acted.made) (end_of_run net) (λ x n less. a.acted.shown x n (omega (arith, less, whole))));
    }

-- the record of it
module _ (net : Net) (network : IsNetwork net) (arriving : ℕ → ℕ → ℕ) (store : ℕ → ℕ) (w : SpillState) (run : SpillRun) (a : HaveSpilled net arriving store (act_rounds net) run.timelines w) (all : run.totals ≡ w.totals) where
  pub recorded : IsSpillRun net arriving store run
  recorded = record {
    actuated = ended net network arriving store run.timelines w run.totals a all;
    lines = fill_by_all (line_before (first_line net) a.acted.made (act_rounds net)) run.timelines (length net.node_names) [] a.acted.count a.acted.are;
  }

  pub counted : CountsLastLines net arriving store run
  counted =
      let whole = (act-rounds net network).whole in
      all ∙ a.stands.totals ∙ ap (λ s. stored_totals net arriving (cumulative_in net arriving store (signs_by (line_in run.timelines)) s) s) (a.second ∙ whole)

-- ---- what every run keeps

module _ (net : Net) (network : IsNetwork net) (arriving : ℕ → ℕ → ℕ) (store : ℕ → ℕ) (t : SpillTotals) (is : IsActuatedIn net arriving store t) where
  keep : AllKeepEvery net (act_step net) (line_before (first_line net) is.made) (act_rounds net)
  keep = all-keep-every net (act_step net) (line_before (first_line net) is.made) (act_rounds net) (begins-by net network) (first-is-line net network)
      (λ r n less below early old. next-keeps net network n below (cumulative_in net arriving store (shown_in net is.made) (r * act_step net)) (r * act_step net) (line_before (first_line net) is.made r n) (is.made r n) early old (is.acts r n less below))

  in-rounds : (second : ℕ) → second < end_of_run net → second < act_rounds net * act_step net
  in-rounds second before = omega (arith, before, (act-rounds net network).whole)

  line-is : (rounds : ℕ) → rounds ≤ act_rounds net → (n : ℕ) → n < length net.node_names → IsLine (plan_at net n) (line_before (first_line net) is.made rounds n)
  line-is zero most n below = first-is-line net network n below
  line-is (suc r) most n below = (keep r n (omega arith) below).line

  last-is : (n : ℕ) → n < length net.node_names → line_in (last_lines net is.made) n ≡ line_before (first_line net) is.made (act_rounds net) n
  last-is n below = get_or-map-range_with_len (line_before (first_line net) is.made (act_rounds net)) 0 (length net.node_names) n n [] below (omega arith)

  pub last-lawful : AreLawful net (last_lines net is.made)
  last-lawful n below = subst (IsLawful (plan_at net n)) (sym (last-is n below)) (line-is (act_rounds net) (omega arith) n below).lawful

  pub last-safe : IsSafe net (line_in (last_lines net is.made))
  last-safe = safe net network (line_in (last_lines net is.made)) last-lawful

  pub last-show : LastLinesShow net is.made
  last-show second n before below =
      ap (λ (l : List Green). sign_at l second) (last-is n below)
      ∙ shows-every net (act_step net) (act-rounds net network).some (line_before (first_line net) is.made) (act_rounds net) keep (act_rounds net) (omega arith) second n below (div_below second (act_step net) (act_rounds net) (act-rounds net network).some (in-rounds second before))

-- and its record
module _ (net : Net) (network : IsNetwork net) (arriving : ℕ → ℕ → ℕ) (store : ℕ → ℕ) (run : SpillRun) (is : IsSpillRun net arriving store run) where
  pub record-lawful : AreLawful net run.timelines
  record-lawful = subst (AreLawful net) (sym is.lines) (last-lawful net network arriving store run.totals is.actuated)

  pub record-safe : IsSafe net (line_in run.timelines)
  record-safe = safe net network (line_in run.timelines) record-lawful
