-- A network has one run under actuated control for what arrives at it.
use Rattle.std.proofs.Common.{◌≡◌, ℕ, zero, suc, ◌+◌, ◌*◌, ◌/◌, ◌<◌, ◌≤◌, List, [], length, map, refl, sym, ap, subst, ◌∙◌, inl, inr, arith}
use Rattle.std.specs.List.{range_with_len}
use Rattle.std.proofs.lemmas.Bool.{cases_lt}
use Rattle.std.proofs.lemmas.List.{ext_get_or}
use Rattle.std.proofs.lemmas.List.FromFn.{get_or-map-range_with_len, length-map-range_with_len}
use Rattle.std.proofs.lemmas.Nat.{div_below}
use Rattle.std.proofs.lemmas.Option.{same_Some}
use Rattle.control_flow.specs.Greens.{spliced}
use Rattle.control_flow.specs.Signs.{sign_at}
use Rattle.control_flow.specs.declared.greens.Green.{Green}
use Rattle.net_parts.specs.Numbers.{Net}
use Rattle.net_parts.specs.Outline.{plan_at}
use Rattle.net_simulator.specs.Flow.{Cumulative, cumulative_under}
use Rattle.net_simulator.specs.Sums.{end_of_run, link_totals, totals}
use Rattle.net_simulator.proofs.AtNodes.{past-at-nodes}
use Rattle.road_net.specs.Network.{IsNetwork}
use Rattle.signal_safety.specs.Rounds.{line_before}
use Rattle.switch_rules.specs.declared.Head.{Head}
use Rattle.actuated.specs.ActRuns.{AllAct, IsActRun, IsNextLine, calls_at, first_line, shown_in}
use Rattle.actuated.specs.ActSteps.{act_rounds, act_step}
use Rattle.actuated.specs.Calls.{act_line}
use Rattle.actuated.specs.RunsSoFar.{CountsAtNodes}
use Rattle.actuated.proofs.ActStepLaws.{act-rounds}
use Rattle.audit.specs.declared.line_runs.LineRun.{LineRun}
use Rattle.control_flow.specs.declared.greens.Sign.{Sign}

-- a line has one next line
next-one : (net : Net) (n node : ℕ) (past seen : ℕ → ℕ → Cumulative) → past ≡ seen → (old older next other : List Green) → old ≡ older
    → IsNextLine net past n node old next → IsNextLine net seen n node older other → next ≡ other
next-one net n node past seen same_past old older next other same_old is also =
    let moved : IsNextLine net seen n node older next =
    subst (λ (p : ℕ → ℕ → Cumulative). IsNextLine net p n node older next) same_past (subst (λ (l : List Green). IsNextLine net past n node l next) same_old is) in
    let head : moved.head ≡ also.head = same_Some moved.head also.head (sym moved.at ∙ also.at) in
    moved.is ∙ ap (λ (h : Head). spliced older (act_line (plan_at net node) h (calls_at net seen n node) (n + net.run.look))) head ∙ sym also.is

module _ (net : Net) (network : IsNetwork net) (under : (ℕ → ℕ → Sign) → ℕ → ℕ → ℕ → Cumulative) (counts : CountsAtNodes net under) (made other : ℕ → ℕ → List Green) where
  -- the lines that were made before a round are the same
  abbrev pub SameBefore : ℕ → Type 0
  SameBefore r = (s n : ℕ) → s < r → n < length net.node_names → made s n ≡ other s n

  pub lines-same : (r n : ℕ) → SameBefore r → n < length net.node_names → line_before (first_line net) made r n ≡ line_before (first_line net) other r n
  lines-same zero n before below = refl
  lines-same (suc r) n before below = before r n (omega arith) below

  pub past-same : (r : ℕ) → SameBefore r → under (shown_in net made) (r * act_step net) ≡ under (shown_in net other) (r * act_step net)
  past-same r before =
      counts (shown_in net made) (shown_in net other) (r * act_step net)
      (λ x n less below. ap (λ (l : List Green). sign_at l x) (before (x / act_step net) n (div_below x (act_step net) r (act-rounds net network).some less) below))

  pub same-before : (rounds : ℕ) → AllAct net under made rounds → AllAct net under other rounds → (r : ℕ) → r ≤ rounds → SameBefore r
  same-before rounds acts also zero most s n less below = absurd (omega (arith, less))
  same-before rounds acts also (suc r) most s n less below = elim (cases_lt s r) [
    | inl earlier ↦ same-before rounds acts also r (omega arith) s n earlier below
    | inr late ↦
        let here : r ≡ s = omega (arith, less, late) in
        let before = same-before rounds acts also r (omega arith) in
        subst (λ q. made q n ≡ other q n) here
        (next-one net (r * act_step net) n (under (shown_in net made) (r * act_step net)) (under (shown_in net other) (r * act_step net)) (past-same r before)
        (line_before (first_line net) made r n) (line_before (first_line net) other r n) (made r n) (other r n) (lines-same r n before below)
        (acts r n (omega arith) below) (also r n (omega arith) below))
  ]

pub one-run : (net : Net) → IsNetwork net → (arriving : ℕ → ℕ → ℕ) (one other : LineRun) → IsActRun net arriving one → IsActRun net arriving other → one ≡ other
one-run net network arriving one other a b = λ i. record { timelines = timelines i; links = links i; totals = all i }
  where
    before : (s n : ℕ) → s < act_rounds net → n < length net.node_names → a.made s n ≡ b.made s n
    before = same-before net network (cumulative_under net arriving) (past-at-nodes net network arriving) a.made b.made (act_rounds net) a.by.acts b.by.acts (act_rounds net) (omega arith)

    past : cumulative_under net arriving (shown_in net a.made) (end_of_run net) ≡ cumulative_under net arriving (shown_in net b.made) (end_of_run net)
    past = subst (λ n. cumulative_under net arriving (shown_in net a.made) n ≡ cumulative_under net arriving (shown_in net b.made) n) (act-rounds net network).whole
        (past-same net network (cumulative_under net arriving) (past-at-nodes net network arriving) a.made b.made (act_rounds net) before)

    last : (ℕ → ℕ → List Green) → ℕ → List Green
    last made = line_before (first_line net) made (act_rounds net)

    nodes : ℕ
    nodes = length net.node_names

    same-lists : map (last a.made) (range_with_len 0 nodes) ≡ map (last b.made) (range_with_len 0 nodes)
    same-lists = ext_get_or [] (map (last a.made) (range_with_len 0 nodes)) (map (last b.made) (range_with_len 0 nodes))
        (length-map-range_with_len (last a.made) 0 nodes ∙ sym (length-map-range_with_len (last b.made) 0 nodes))
        (λ n inside.
        let below : n < nodes = omega (arith, inside, length-map-range_with_len (last a.made) 0 nodes) in
        get_or-map-range_with_len (last a.made) 0 nodes n n [] below (omega arith)
        ∙ lines-same net network (cumulative_under net arriving) (past-at-nodes net network arriving) a.made b.made (act_rounds net) n before below
        ∙ sym (get_or-map-range_with_len (last b.made) 0 nodes n n [] below (omega arith)))

    timelines : one.timelines ≡ other.timelines
    timelines = a.by.timelines ∙ same-lists ∙ sym b.by.timelines

    links : one.links ≡ other.links
    links = a.by.links ∙ ap (λ (p : ℕ → ℕ → Cumulative). map (link_totals net p (end_of_run net)) (range_with_len 0 (length net.link_names))) past ∙ sym b.by.links

    all : one.totals ≡ other.totals
    all = a.by.all ∙ ap (λ (p : ℕ → ℕ → Cumulative). totals net arriving p (end_of_run net)) past ∙ sym b.by.all
