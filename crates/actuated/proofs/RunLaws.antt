-- How the rounds of a run go on, and what every run keeps.
use Rattle.std.proofs.Common.{◌≡◌, ℕ, ◌+◌, ◌*◌, ◌<◌, ◌≤◌, List, [], length, get_or, map, refl, sym, ap, subst, ◌∙◌, arith}
use Rattle.std.specs.List.{range_with_len}
use Rattle.std.proofs.lemmas.List.FromFn.{fill_by_all, get_or-map-range_with_len, length-map-range_with_len}
use Rattle.std.proofs.lemmas.Nat.{div_below}
use Rattle.audit.specs.Audits.{IsClean}
use Rattle.control_flow.specs.Signs.{sign_at}
use Rattle.control_flow.specs.declared.greens.Green.{Green}
use Rattle.net_parts.specs.Limits.{most_seconds}
use Rattle.net_parts.specs.Numbers.{Net}
use Rattle.net_simulator.specs.Counts.{counts_at, no_totals}
use Rattle.net_simulator.specs.Flow.{Cumulative, passed_in, cumulative_under}
use Rattle.net_simulator.specs.Sums.{end_of_run, link_totals, totals}
use Rattle.net_simulator.specs.Worlds.{Stands, WorldState, line_in, signs_by, IsWorldOf}
use Rattle.net_simulator.specs.declared.totals.LinkTotals.{LinkTotals}
use Rattle.net_simulator.proofs.FlowLaws.{history-same}
use Rattle.net_simulator.proofs.Passing.{stands-under}
use Rattle.road_net.specs.Network.{IsNetwork}
use Rattle.signal_safety.specs.Rounds.{line_before}
use Rattle.signal_safety.specs.Safe.{IsSafe}
use Rattle.signal_safety.proofs.Lines.{safe}
use Rattle.signal_safety.proofs.Rounds.{AllKeepEvery, all-keep-every, shows-every}
use Rattle.audit.specs.SheetTexts.{HasShape}
use Rattle.audit.specs.LineRuns.{sheet_of}
use Rattle.actuated.specs.ActRuns.{IsActRun, KeepsWaits, ShowsSigns, first_line, cumulative_by, shown_in}
use Rattle.actuated.specs.ActSteps.{act_rounds, act_step}
use Rattle.actuated.specs.Rounds.{AreFirstLines, AreRenewed}
use Rattle.actuated.specs.RunsSoFar.{AreNear, HavePlayed}
use Rattle.audit.specs.declared.line_runs.LineRun.{LineRun}
use Rattle.actuated.proofs.ActStepLaws.{act-rounds, begins-by, one-round, time-for}
use Rattle.actuated.proofs.Acting.{more-acted, none-acted, same-before}
use Rattle.actuated.proofs.ActWaits.{run-waits}
use Rattle.actuated.proofs.LineLaws.{first-is-line, next-keeps}
use Rattle.arrivals.specs.Amounts.{Amounts, AreArrivals, arriving_of}
use Rattle.control_flow.specs.declared.greens.Sign.{Sign}

-- ---- the rounds

past-same : (net : Net) (arriving : ℕ → ℕ → ℕ) (shown seen : ℕ → ℕ → Sign) (n : ℕ) → ((x node : ℕ) → x < n → shown x node ≡ seen x node) → cumulative_under net arriving shown n ≡ cumulative_under net arriving seen n
past-same net arriving shown seen n same = ap passed_in (history-same net arriving arriving shown seen n (λ x l h. refl) same)

-- before the first round
pub none-played : (net : Net) (arriving : ℕ → ℕ → ℕ) (lines : List (List Green)) (w : WorldState) → AreFirstLines net (length net.node_names) lines → w.second ≡ 0
    → ((shown : ℕ → ℕ → Sign) → Stands net arriving shown w) → HavePlayed net arriving 0 lines w
none-played net arriving lines w first second stands = record {
  acted = none-acted net (cumulative_under net arriving) lines first;
  second = (let z : 0 ≡ 0 * act_step net = omega arith in second ∙ z);
  stands = stands (signs_by (line_in lines));
}

module _ (net : Net) (network : IsNetwork net) (arriving : ℕ → ℕ → ℕ) (r : ℕ) (lines renewed : List (List Green)) (near : List ℕ) (w : WorldState) (a : HavePlayed net arriving r lines w) (are : AreRenewed net near w.second (length net.node_names) lines renewed) where
  then-renewed : AreRenewed net near (r * act_step net) (length net.node_names) lines renewed
  then-renewed = subst (λ s. AreRenewed net near s (length net.node_names) lines renewed) a.second are

  pub renewed-stands : Stands net arriving (signs_by (line_in renewed)) w
  renewed-stands =
      stands-under net arriving (signs_by (line_in lines)) (signs_by (line_in renewed)) w
      (λ x n less. sym (same-before net network (cumulative_under net arriving) (past-same net arriving) r lines renewed near a.acted then-renewed x n (omega (arith, a.second, less)))) a.stands

  pub room : r < act_rounds net → w.second + act_step net ≤ most_seconds
  room less = omega (arith, time-for net network r less, a.second)

  -- after a round more
  pub more-played : AreNear net (cumulative_under net arriving (signs_by (line_in lines)) w.second) w.second near → (v : WorldState) → v.second ≡ w.second + act_step net → Stands net arriving (signs_by (line_in renewed)) v → HavePlayed net arriving (r + 1) renewed v
  more-played sensed v second stands = record {
    acted = more-acted net network (cumulative_under net arriving) (past-same net arriving) r lines renewed near a.acted then-renewed (subst (λ s. AreNear net (cumulative_under net arriving (signs_by (line_in lines)) s) s near) a.second sensed);
    second = omega (arith, second, a.second, one-round net r);
    stands = stands;
  }

-- the world of lines that have acted is one of the network
pub played-world : (net : Net) (arrivals : Amounts) (r : ℕ) (lines : List (List Green)) (w : WorldState) → AreArrivals net arrivals → HavePlayed net (arriving_of arrivals) r lines w → IsWorldOf net w
played-world net arrivals r lines w enter a = record { arrivals = arrivals; lines = line_in lines; enter = enter; stands = a.stands }

-- ---- the record

module _ (net : Net) (network : IsNetwork net) (arriving : ℕ → ℕ → ℕ) (w : WorldState) (run : LineRun) (a : HavePlayed net arriving (act_rounds net) run.timelines w)
    (links : run.links ≡ map (counts_at w.counts) (range_with_len 0 (length net.link_names))) (all : run.totals ≡ w.totals) where
  second-is : w.second ≡ end_of_run net
  second-is = a.second ∙ (act-rounds net network).whole

  past-is : cumulative_under net arriving (signs_by (line_in run.timelines)) (end_of_run net) ≡ cumulative_by net arriving a.acted.made
  past-is = past-same net arriving (signs_by (line_in run.timelines)) (shown_in net a.acted.made) (end_of_run net) (λ x n less. a.acted.shown x n (omega (arith, less, (act-rounds net network).whole)))

  link-is : (l : ℕ) → l < length net.link_names → get_or run.links l no_totals ≡ link_totals net (cumulative_under net arriving (signs_by (line_in run.timelines)) (end_of_run net)) (end_of_run net) l
  link-is l below =
      ap (λ (ts : List LinkTotals). get_or ts l no_totals) links ∙ get_or-map-range_with_len (counts_at w.counts) 0 (length net.link_names) l l no_totals below (omega arith)
      ∙ a.stands.counts l below ∙ ap (λ s. link_totals net (cumulative_under net arriving (signs_by (line_in run.timelines)) s) s l) second-is

  all-is : run.totals ≡ totals net arriving (cumulative_under net arriving (signs_by (line_in run.timelines)) (end_of_run net)) (end_of_run net)
  all-is = all ∙ a.stands.totals ∙ ap (λ s. totals net arriving (cumulative_under net arriving (signs_by (line_in run.timelines)) s) s) second-is

  link-count : length run.links ≡ length net.link_names
  link-count = ap length links ∙ length-map-range_with_len (counts_at w.counts) 0 (length net.link_names)

  pub ended-run : IsActRun net arriving run
  ended-run = record {
    made = a.acted.made;
    by = record {
      acts = a.acted.acts;
      timelines = fill_by_all (line_before (first_line net) a.acted.made (act_rounds net)) run.timelines (length net.node_names) [] a.acted.count a.acted.are;
      links = fill_by_all (link_totals net (cumulative_by net arriving a.acted.made) (end_of_run net)) run.links (length net.link_names) no_totals link-count
          (λ l below. link-is l below ∙ ap (λ (p : ℕ → ℕ → Cumulative). link_totals net p (end_of_run net) l) past-is);
      all = all-is ∙ ap (λ (p : ℕ → ℕ → Cumulative). totals net arriving p (end_of_run net)) past-is;
    };
  }

  pub ended-shape : HasShape net (sheet_of run)
  ended-shape = record { lines = a.acted.count; links = link-count }

  pub ended-clean : IsClean net arriving (sheet_of run)
  ended-clean = record { lawful = λ n below. (a.acted.ready n below).lawful; links = link-is; all = all-is }

  pub ended-safe : IsSafe net (line_in run.timelines)
  ended-safe = safe net network (line_in run.timelines) (λ n below. (a.acted.ready n below).lawful)

-- ---- what every run keeps

module _ (net : Net) (network : IsNetwork net) (arriving : ℕ → ℕ → ℕ) (run : LineRun) (is : IsActRun net arriving run) where
  keep : AllKeepEvery net (act_step net) (line_before (first_line net) is.made) (act_rounds net)
  keep = all-keep-every net (act_step net) (line_before (first_line net) is.made) (act_rounds net) (begins-by net network) (first-is-line net network)
      (λ r n less below early old. next-keeps net network n below (cumulative_under net arriving (shown_in net is.made) (r * act_step net)) (r * act_step net) (line_before (first_line net) is.made r n) (is.made r n) early old (is.by.acts r n less below))

  in-rounds : (second : ℕ) → second < end_of_run net → second < act_rounds net * act_step net
  in-rounds second before = omega (arith, before, (act-rounds net network).whole)

  line-is : (n : ℕ) → n < length net.node_names → line_in run.timelines n ≡ line_before (first_line net) is.made (act_rounds net) n
  line-is n below =
      ap (λ (l : List (List Green)). get_or l n []) is.by.timelines
      ∙ get_or-map-range_with_len (line_before (first_line net) is.made (act_rounds net)) 0 (length net.node_names) n n [] below (omega arith)

  pub shows-signs : ShowsSigns net is.made run
  shows-signs second n before below =
      ap (λ (l : List Green). sign_at l second) (line-is n below)
      ∙ shows-every net (act_step net) (act-rounds net network).some (line_before (first_line net) is.made) (act_rounds net) keep (act_rounds net) (omega arith) second n below (div_below second (act_step net) (act_rounds net) (act-rounds net network).some (in-rounds second before))

-- the record of lines that have acted in all rounds, and what it keeps
pub record HasEnded (net : Net) (arriving : ℕ → ℕ → ℕ) (run : LineRun) : Type 0 where
  pub is_run : IsActRun net arriving run
  pub shape : HasShape net (sheet_of run)
  pub safe : IsSafe net (line_in run.timelines)
  pub signs : (is : IsActRun net arriving run) → ShowsSigns net is.made run
  pub waits : (is : IsActRun net arriving run) → KeepsWaits net arriving is.made
  pub clean : IsClean net arriving (sheet_of run)

pub ended : (net : Net) → IsNetwork net → (arriving : ℕ → ℕ → ℕ) (w : WorldState) (run : LineRun) (lines : List (List Green)) → run.timelines ≡ lines → HavePlayed net arriving (act_rounds net) lines w
    → run.links ≡ map (counts_at w.counts) (range_with_len 0 (length net.link_names)) → run.totals ≡ w.totals → HasEnded net arriving run
ended net network arriving w run lines are acted links all =
    let a : HavePlayed net arriving (act_rounds net) run.timelines w = subst (λ (l : List (List Green)). HavePlayed net arriving (act_rounds net) l w) (sym are) acted in
    record {
      is_run = ended-run net network arriving w run a links all;
      shape = ended-shape net network arriving w run a links all;
      safe = ended-safe net network arriving w run a links all;
      signs = shows-signs net network arriving run;
      waits = λ is. run-waits net network arriving is.made is.by.acts;
      clean = ended-clean net network arriving w run a links all;
    }
