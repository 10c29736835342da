-- How long the ring takes, and that no green of it is followed by one of its phase.
use Rattle.std.proofs.Common.{◌≡◌, ◌≢◌, ℕ, zero, suc, ◌+◌, ◌-◌, ◌<◌, ◌≤◌, Bool, true, false, ◌||◌, ◌==◌, cond, ltb, List, [], ◌∷◌, ◌++◌, length, filter, map, All, inl, inr, refl, sym, ap, subst, ◌∙◌, arith}
use Rattle.std.specs.List.{range_with_len}
use Rattle.std.proofs.lemmas.Bool.{and_from, cases_Bool, cases_lt, cond_above, cond_below, cond_both, eq-eqb, false≢true, ltb-true, ltb-false, or_parts}
use Rattle.std.proofs.lemmas.List.Elements.{All-cons, All-head, All-nil, All-tail, All-weaker, filter-append}
use Rattle.std.proofs.lemmas.List.Sums.{sum_by-cons}
use Rattle.phase_plan.specs.Phases.{IsRing, between, is_passed, is_unmarked_at, passed_numbers, passes_all, phase_at, passing, stops_between, switch_time}
use Rattle.phase_plan.specs.declared.Phase.{Phase}
use Rattle.phase_plan.proofs.RingLaws.{time_at}
use Rattle.control_flow.specs.Timelines.{begin_after}
use Rattle.control_flow.proofs.MarkLaws.{all-round, each-of-range}

pub begin_after-later : (plan : List Phase) (from : ℕ) (ks : List ℕ) → from ≤ begin_after plan from ks
begin_after-later plan from [] = omega arith
begin_after-later plan from (k ∷ ks) = omega (arith, begin_after-later plan (from + passing (phase_at plan k)) ks)

begin_after-time : (plan : List Phase) (from : ℕ) (ks : List ℕ) → begin_after plan from ks ≡ from + time_at plan ks
begin_after-time plan from [] = omega arith
begin_after-time plan from (k ∷ ks) =
    omega (arith, begin_after-time plan (from + passing (phase_at plan k)) ks, sum_by-cons passing (phase_at plan k) (map (λ j. phase_at plan j) ks))

-- a green that ends at `to` is followed by the wanted one after the switch time
pub begin_after-passed : (plan : List Phase) (to s j : ℕ) → begin_after plan (to + (phase_at plan s).yellow + (phase_at plan s).clear) (passed_numbers plan s j) ≡ to + switch_time plan s j
begin_after-passed plan to s j = omega (arith, begin_after-time plan (to + (phase_at plan s).yellow + (phase_at plan s).clear) (passed_numbers plan s j))

-- going from phase s to these phases, one after another, and then to phase j, each is another one than that before it
abbrev pub AreOthers : ℕ → List ℕ → ℕ → Type 0
AreOthers s [] j = j ≢ s
AreOthers s (k ∷ ks) j = (k ≢ s) × AreOthers k ks j

module _ (stops : ℕ → Bool) where
  -- from below a range, or from its end, to a phase out of it
  others-up : (s a n j : ℕ) → ((k : ℕ) → a ≤ k → k < a + n → k ≢ s) → ((k : ℕ) → a ≤ k → k < a + n → j ≢ k) → (filter stops (range_with_len a n) ≡ [] → j ≢ s)
      → AreOthers s (filter stops (range_with_len a n)) j
  others-up s a zero j from to none = none refl
  others-up s a (suc n) j from to none =
      let rest = filter stops (range_with_len (a + 1) n) in
      cond_both (stops a) (a ∷ rest) rest (λ ks. AreOthers s ks j)
      (λ e. (from a (omega arith) (omega arith), others-up a (a + 1) n j (λ k low high. λ same. omega arith) (λ k low high. to k (omega arith) (omega arith)) (λ e. to a (omega arith) (omega arith))))
      (λ e. others-up s (a + 1) n j (λ k low high. from k (omega arith) (omega arith)) (λ k low high. to k (omega arith) (omega arith)) (λ empty. none (ap (λ (b : Bool). cond b (a ∷ rest) rest) e ∙ empty)))

  -- up to the end of the ring, and from its begin
  others-round : (s a n j : ℕ) → s < a → j ≤ s → (filter stops (range_with_len a n ++ range_with_len 0 j) ≡ [] → j ≢ s)
      → AreOthers s (filter stops (range_with_len a n ++ range_with_len 0 j)) j
  others-round s a zero j lt le none = others-up s 0 j j (λ k low high. λ same. omega arith) (λ k low high. λ same. omega arith) none
  others-round s a (suc n) j lt le none =
      let rest = filter stops (range_with_len (a + 1) n ++ range_with_len 0 j) in
      cond_both (stops a) (a ∷ rest) rest (λ ks. AreOthers s ks j)
      (λ e. ((λ same. omega arith), others-round a (a + 1) n j (omega arith) (omega arith) (λ e. λ same. omega arith)))
      (λ e. others-round s (a + 1) n j (omega arith) le (λ empty. none (ap (λ (b : Bool). cond b (a ∷ rest) rest) e ∙ empty)))

  -- the phases at which the ring stops on its way
  others-between : (plan : List Phase) (s j : ℕ) → (stops_between plan stops s j ≡ [] → j ≢ s) → AreOthers s (stops_between plan stops s j) j
  others-between plan s j none =
      let up = range_with_len (s + 1) (j - (s + 1)) in
      let round : List ℕ = range_with_len (s + 1) (length plan - (s + 1)) ++ range_with_len 0 j in
      cond_both (ltb s j) up round (λ ks. AreOthers s (filter stops ks) j)
      (λ e. let below = ltb-true s j e in others-up s (s + 1) (j - (s + 1)) j (λ k low high. λ same. omega arith) (λ k low high. λ same. omega arith) (λ empty. λ same. omega (arith, below)))
      (λ e.
      let above = ltb-false s j e in
      others-round s (s + 1) (length plan - (s + 1)) j (omega arith) above (λ empty. none (ap (λ (b : Bool). filter stops (cond b up round)) e ∙ empty)))

-- a ring passes some phase on the way from one to the same

none-passes : (test : ℕ → Bool) (xs : List ℕ) → filter test xs ≡ [] → All (λ k. test k ≡ false) xs
none-passes test [] e = All-nil (λ k. test k ≡ false)
none-passes test (x ∷ xs) e = elim (cases_Bool (test x)) [
  | inl t ↦ (let some : x ∷ filter test xs ≡ [] = ap (λ (b : Bool). cond b (x ∷ filter test xs) (filter test xs)) (sym t) ∙ e in absurd cc)
  | inr f ↦ All-cons (λ k. test k ≡ false) x xs f (none-passes test xs (ap (λ (b : Bool). cond b (x ∷ filter test xs) (filter test xs)) (sym f) ∙ e))
]

each-other : (P : ℕ → Type 0) (plan : List Phase) (s : ℕ) → All P (between plan s s) → (k : ℕ) → k < length plan → k ≢ s → P k
each-other P plan s all k below other =
    let both = (all-round P plan s s (length plan) refl (omega arith)).1 all in
    elim (cases_lt k s) [
      | inl lt ↦ each-of-range P 0 s both.1 k (omega arith) lt
      | inr le ↦
          let apart : s < k = elim (cases_lt s k) [ inl x ↦ x | inr x ↦ absurd (other (omega arith)) ] in
          each-of-range P (s + 1) (length plan) both.0 k (omega arith) below
    ]

none-left : (test : ℕ → Bool) (xs : List ℕ) → All (λ k. test k ≡ false) xs → length (filter test xs) ≡ 0
none-left test [] h = refl
none-left test (x ∷ xs) h =
    ap (λ (b : Bool). length (cond b (x ∷ filter test xs) (filter test xs))) (All-head (λ k. test k ≡ false) x xs h)
    ∙ none-left test xs (All-tail (λ k. test k ≡ false) x xs h)

passes-some : (plan : List Phase) (s : ℕ) → IsRing plan → s < length plan → passed_numbers plan s s ≡ [] → ⊥
passes-some plan s p h empty =
    let pass = is_passed plan s s in
    let none = none-passes pass (between plan s s) empty in
    let parts = λ (k : ℕ) (e : pass k ≡ false). or_parts (is_unmarked_at plan k) (passes_all plan s s) e in
    let unmarked = All-weaker (λ k. pass k ≡ false) (λ k. is_unmarked_at plan k ≡ false) (λ k e. (parts k e).0) (between plan s s) none in
    let all : passes_all plan s s ≡ true =
    and_from (s == s) (length (stops_between plan (is_unmarked_at plan) s s) == 0) (eq-eqb s s refl) (eq-eqb _ 0 (none-left (is_unmarked_at plan) (between plan s s) unmarked)) in
    let unpassed = λ (k : ℕ) (below : k < length plan) (other : k ≢ s).
    let no : ⊥ = false≢true (sym (parts k (each-other (λ k. pass k ≡ false) plan s none k below other)).1 ∙ all) in no in
    elim (cases_lt 0 s) [
      | inl later ↦ unpassed 0 (omega arith) (λ e. omega arith)
      | inr first ↦ unpassed 1 (omega (arith, p.count.0)) (λ e. omega arith)
    ]

-- the phases that a ring passes: no green is followed by one of its phase
pub passed-others : (plan : List Phase) (s j : ℕ) → IsRing plan → s < length plan → j < length plan → AreOthers s (passed_numbers plan s j) j
passed-others plan s j p hs hj = others-between (is_passed plan s j) plan s j (λ empty. λ same. passes-some plan s p hs (subst (λ k. passed_numbers plan s k ≡ []) same empty))

-- the numbers of the phases that a ring passes, all or the unmarked ones

-- up to a later phase
pub passed-later : (plan : List Phase) (s j : ℕ) (all : Bool) → all ≡ passes_all plan s j → s < j
    → filter (λ k. is_unmarked_at plan k || all) (range_with_len (s + 1) (j - (s + 1))) ≡ passed_numbers plan s j
passed-later plan s j all is h =
    let up = range_with_len (s + 1) (j - (s + 1)) in
    ap (λ (b : Bool). filter (λ k. is_unmarked_at plan k || b) up) is
    ∙ ap (λ (ks : List ℕ). filter (is_passed plan s j) ks) (cond_below s j up (range_with_len (s + 1) (length plan - (s + 1)) ++ range_with_len 0 j) h)

-- up to the end of the ring, and from its begin
pub passed-on : (plan : List Phase) (s j count : ℕ) (all : Bool) → all ≡ passes_all plan s j → count ≡ length plan → j ≤ s
    → filter (λ k. is_unmarked_at plan k || all) (range_with_len (s + 1) (count - (s + 1))) ++ filter (λ k. is_unmarked_at plan k || all) (range_with_len 0 (j - 0))
    ≡ passed_numbers plan s j
passed-on plan s j count all is same h =
    let up : List ℕ = range_with_len (s + 1) (count - (s + 1)) in
    let both : List ℕ = range_with_len (s + 1) (length plan - (s + 1)) ++ range_with_len 0 j in
    let begin : j - 0 ≡ j = omega arith in
    sym (filter-append (λ k. is_unmarked_at plan k || all) up (range_with_len 0 (j - 0)))
    ∙ ap (λ (b : Bool). filter (λ k. is_unmarked_at plan k || b) (up ++ range_with_len 0 (j - 0))) is
    ∙ ap (λ (n : ℕ). filter (is_passed plan s j) (range_with_len (s + 1) (n - (s + 1)) ++ range_with_len 0 (j - 0))) same
    ∙ ap (λ (n : ℕ). filter (is_passed plan s j) (range_with_len (s + 1) (length plan - (s + 1)) ++ range_with_len 0 n)) begin
    ∙ ap (λ (ks : List ℕ). filter (is_passed plan s j) ks) (cond_above s j (range_with_len (s + 1) (j - (s + 1))) both both h refl)
