-- How the lines go on round by round, whatever the world is.
use Rattle.std.proofs.Common.{◌≡◌, ℕ, zero, suc, ◌+◌, ◌*◌, ◌/◌, ◌<◌, ◌≤◌, cond, eqb, List, [], ◌∷◌, ◌++◌, length, get_or, set, slice_index, refl, sym, ap, subst, ◌∙◌, inl, inr, arith, ne_eqb, length-set, get_or-set_same, get_or-set_other}
use Rattle.std.proofs.lemmas.Bool.{cases_eq, cases_lt, eq-eqb}
use Rattle.std.proofs.lemmas.List.{get_or_append_left, get_or_default, get_or_past, get_or_push, length_push}
use Rattle.std.proofs.lemmas.Nat.{div_below}
use Rattle.std.proofs.Math.Nat.{div-lt_iff_lt-mul, mul-le-mul_right}
use Rattle.control_flow.specs.Signs.{sign_at}
use Rattle.control_flow.specs.declared.greens.Green.{Green}
use Rattle.net_parts.specs.Numbers.{Net}
use Rattle.net_parts.specs.Outline.{plan_at}
use Rattle.net_simulator.specs.Flow.{Cumulative}
use Rattle.net_simulator.specs.Worlds.{line_in, signs_by}
use Rattle.road_net.specs.Network.{IsNetwork}
use Rattle.signal_safety.specs.Rounds.{line_before}
use Rattle.actuated.specs.ActRuns.{AllAct, IsNextBy, IsNextLine, first_line, shown_in}
use Rattle.actuated.specs.ActSteps.{act_step}
use Rattle.actuated.specs.Calls.{calls_by}
use Rattle.actuated.specs.Rounds.{AreFirstLines, AreRenewed, IsReady, IsRenewed}
use Rattle.actuated.specs.RunsSoFar.{AreNear, CountsBefore, HaveActed}
use Rattle.actuated.proofs.ActStepLaws.{act-rounds, one-round}
use Rattle.actuated.proofs.NearLaws.{calls-are}
use Rattle.control_flow.specs.declared.greens.Sign.{Sign}

-- ---- first lines, one after another

pub none-first : (net : Net) (lines : List (List Green)) → lines ≡ [] → AreFirstLines net 0 lines
none-first net lines none = record { count = ap length none; are = λ n less. absurd (omega arith); ready = λ n less. absurd (omega arith) }

pub more-first : (net : Net) (n : ℕ) (lines : List (List Green)) (line : List Green) → AreFirstLines net n lines → line ≡ first_line net n → IsReady (plan_at net n) 0 line → AreFirstLines net (n + 1) (lines ++ line ∷ [])
more-first net n lines line were is ready = record {
  count = length_push lines line ∙ ap (λ k. k + 1) were.count;
  are = λ k less. elim (cases_lt k n) [
    | inl before ↦ get_or_append_left lines (line ∷ []) [] k (omega (arith, were.count)) ∙ were.are k before
    | inr at ↦ (let e : k ≡ n = omega arith in ap (λ m. get_or (lines ++ line ∷ []) m []) e ∙ get_or_push lines line [] n were.count ∙ is ∙ ap (first_line net) (sym e))
  ];
  ready = λ k less. elim (cases_lt k n) [
    | inl before ↦ subst (IsReady (plan_at net k) 0) (sym (get_or_append_left lines (line ∷ []) [] k (omega (arith, were.count)))) (were.ready k before)
    | inr at ↦ (let e : k ≡ n = omega arith in subst (λ m. IsReady (plan_at net m) 0 (get_or (lines ++ line ∷ []) m [])) (sym e) (subst (IsReady (plan_at net n) 0) (sym (get_or_push lines line [] n were.count)) ready))
  ];
}

-- ---- the lines of a round, one after another

-- the line at a place
pub at-node : (lines : List (List Green)) (n : ℕ) (line : List Green) → n < length lines → line ≡ get_or lines n line → line ≡ get_or lines n []
at-node lines n line below is = is ∙ sym (get_or_default lines n [] line below)

pub more-renewed : (net : Net) (near : List ℕ) (s n : ℕ) (old new : List (List Green)) (line next : List Green) → n < length old → AreRenewed net near s n old new → line ≡ get_or new n []
    → IsRenewed net (calls_by net (slice_index near) n) s n line next → AreRenewed net near s (n + 1) old (set new n next)
more-renewed net near s n old new line next below were is one = record {
  count = length-set new n next ∙ were.count;
  renewed = λ k less. elim (cases_eq k n) [
    | inl e ↦
        let here : get_or (set new n next) n [] ≡ next = get_or-set_same new n next [] (omega (arith, were.count)) in
        let own : IsRenewed net (calls_by net (slice_index near) n) s n (get_or old n []) (get_or (set new n next) n []) =
        subst (IsRenewed net (calls_by net (slice_index near) n) s n (get_or old n [])) (sym here) (subst (λ (l : List Green). IsRenewed net (calls_by net (slice_index near) n) s n l next) (is ∙ were.rest n (omega arith)) one) in
        subst (λ m. IsRenewed net (calls_by net (slice_index near) m) s m (get_or old m []) (get_or (set new n next) m [])) (sym e) own
    | inr other ↦ subst (IsRenewed net (calls_by net (slice_index near) k) s k (get_or old k [])) (sym (get_or-set_other new n k next [] other)) (were.renewed k (omega arith))
  ];
  rest = λ k past. get_or-set_other new n k next [] (λ e. omega arith) ∙ were.rest k (omega arith);
}

-- ---- the rounds

-- an equal next line
next-moved : (net : Net) (p q : ℕ → ℕ → Cumulative) (s t node : ℕ) (old older new newer : List Green) → p ≡ q → s ≡ t → old ≡ older → new ≡ newer → IsNextLine net p s node old new → IsNextLine net q t node older newer
next-moved net p q s t node old older new newer a b c d next =
    subst (IsNextLine net q t node older) d (subst (λ (o : List Green). IsNextLine net q t node o new) c (subst (λ r. IsNextLine net q r node old new) b (subst (λ (x : ℕ → ℕ → Cumulative). IsNextLine net x s node old new) a next)))

-- before the first round
pub none-acted : (net : Net) (under : (ℕ → ℕ → Sign) → ℕ → ℕ → ℕ → Cumulative) (lines : List (List Green)) → AreFirstLines net (length net.node_names) lines → HaveActed net under 0 lines
none-acted net under lines first = record {
  made = λ r n. [];
  acts = λ r n less below. absurd (omega arith);
  count = first.count;
  are = first.are;
  ready = λ n below. (let z : 0 ≡ 0 * act_step net = omega arith in subst (λ s. IsReady (plan_at net n) s (get_or lines n [])) z (first.ready n below));
  shown = λ x n less. absurd (omega arith);
}

module _ (net : Net) (network : IsNetwork net) (under : (ℕ → ℕ → Sign) → ℕ → ℕ → ℕ → Cumulative) (counts : CountsBefore under) (r : ℕ) (lines renewed : List (List Green)) (near : List ℕ)
    (a : HaveActed net under r lines) (are : AreRenewed net near (r * act_step net) (length net.node_names) lines renewed) where
  -- the renewed lines show the same before
  pub same-before : (x n : ℕ) → x < r * act_step net → sign_at (line_in renewed n) x ≡ sign_at (line_in lines n) x
  same-before x n less = elim (cases_lt n (length net.node_names)) [
    | inl below ↦ (are.renewed n below).past x less
    | inr past ↦ ap (λ (l : List Green). sign_at l x) (get_or_past renewed n [] (omega (arith, are.count, a.count)) ∙ sym (get_or_past lines n [] (omega (arith, a.count))))
  ]

  made : ℕ → ℕ → List Green
  made round n = cond (eqb round r) (line_in renewed n) (a.made round n)

  made-before : (round n : ℕ) → round < r → a.made round n ≡ made round n
  unfolding made
  made-before round n less = sym (ap (λ b. cond b (line_in renewed n) (a.made round n)) (ne_eqb round r (λ e. omega arith)))

  made-now : (round n : ℕ) → round ≡ r → line_in renewed n ≡ made round n
  unfolding made
  made-now round n e = sym (ap (λ b. cond b (line_in renewed n) (a.made round n)) (eq-eqb round r e))

  shown-before : (x n : ℕ) → x < r * act_step net → shown_in net a.made x n ≡ shown_in net made x n
  shown-before x n less = ap (λ (l : List Green). sign_at l x) (made-before (x / act_step net) n (div_below x (act_step net) r (act-rounds net network).some less))

  line-before : (round n : ℕ) → round ≤ r → line_before (first_line net) a.made round n ≡ line_before (first_line net) made round n
  line-before zero n most = refl
  line-before (suc round) n most = made-before round n (omega arith)

  module _ (sensed : AreNear net (under (signs_by (line_in lines)) (r * act_step net)) (r * act_step net) near) where
    acts : AllAct net under made (r + 1)
    acts round n less below = elim (cases_lt round r) [
      | inl before ↦
          let soon : round * act_step net ≤ r * act_step net = mul-le-mul_right {m = round} {n = r} (act_step net) (omega arith) in
          next-moved net (under (shown_in net a.made) (round * act_step net)) (under (shown_in net made) (round * act_step net)) (round * act_step net) (round * act_step net) n
          (line_before (first_line net) a.made round n) (line_before (first_line net) made round n) (a.made round n) (made round n)
          (counts (shown_in net a.made) (shown_in net made) (round * act_step net) (λ x k b. shown-before x k (omega (arith, soon, b))))
          refl (line-before round n (omega arith)) (made-before round n before) (a.acts round n before below)
      | inr at ↦
          let e : round ≡ r = omega arith in
          let second : r * act_step net ≡ round * act_step net = ap (λ k. k * act_step net) (sym e) in
          let calls = calls-are net network (slice_index near) (under (signs_by (line_in lines)) (r * act_step net)) (r * act_step net) n below sensed in
          let one : IsNextLine net (under (signs_by (line_in lines)) (r * act_step net)) (r * act_step net) n (line_in lines n) (line_in renewed n) =
          subst (λ (cs : List ℕ). IsNextBy net cs (r * act_step net) n (line_in lines n) (line_in renewed n)) calls (are.renewed n below).next in
          next-moved net (under (signs_by (line_in lines)) (r * act_step net)) (under (shown_in net made) (round * act_step net)) (r * act_step net) (round * act_step net) n
          (line_in lines n) (line_before (first_line net) made round n) (line_in renewed n) (made round n)
          (counts (signs_by (line_in lines)) (shown_in net made) (r * act_step net) (λ x k b. a.shown x k b ∙ shown-before x k b) ∙ ap (under (shown_in net made)) second)
          second (a.are n below ∙ ap (λ k. line_before (first_line net) a.made k n) (sym e) ∙ line-before round n (omega arith)) (made-now round n e) one
    ]

    shown : (x n : ℕ) → x < (r + 1) * act_step net → sign_at (line_in renewed n) x ≡ shown_in net made x n
    shown x n less = elim (cases_lt (x / act_step net) r) [
      | inl earlier ↦
          let before : x < r * act_step net = (div-lt_iff_lt-mul {k = act_step net} {x = x} {y = r} (act-rounds net network).some).0 earlier in
          same-before x n before ∙ a.shown x n before ∙ shown-before x n before
      | inr last ↦
          let most = div_below x (act_step net) (r + 1) (act-rounds net network).some less in
          ap (λ (l : List Green). sign_at l x) (made-now (x / act_step net) n (omega (arith, last, most)))
    ]

    -- after a round more
    pub more-acted : HaveActed net under (r + 1) renewed
    more-acted = record {
      made = made;
      acts = acts;
      count = are.count ∙ a.count;
      are = λ n below. (let e : r + 1 ≡ suc r = omega arith in made-now r n refl ∙ ap (λ k. line_before (first_line net) made k n) (sym e));
      ready = λ n below. subst (λ s. IsReady (plan_at net n) s (line_in renewed n)) (sym (one-round net r)) (are.renewed n below).ready;
      shown = shown;
    }
