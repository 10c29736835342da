-- What lies between two phases of the ring, by way of a third.
use Rattle.std.proofs.Common.{◌≡◌, ℕ, zero, suc, ◌+◌, ◌-◌, ◌<◌, ◌≤◌, true, not, List, ◌++◌, length, sum_by, All, refl, sym, ap, subst, ◌∙◌, inl, inr, arith, true≢false}
use Rattle.std.specs.List.{range_with_len}
use Rattle.std.proofs.lemmas.Bool.{cases_lt, cond_below, cond_above}
use Rattle.std.proofs.lemmas.List.Sums.{sum_by-append, sum_by-cons}
use Rattle.phase_plan.specs.Phases.{IsMarkedAt, between, is_unmarked_at}
use Rattle.phase_plan.specs.declared.Phase.{Phase}
use Rattle.control_flow.proofs.MarkLaws.{all-round, each-of-range}

module _ (f : ℕ → ℕ) where
  -- the sum over the numbers from a up to b
  abbrev pub over : ℕ → ℕ → ℕ
  over a b = sum_by f (range_with_len a (b - a))

  over-first : (a b : ℕ) → a < b → over a b ≡ f a + over (a + 1) b
  over-first a b h =
      let e : b - a ≡ suc (b - (a + 1)) = omega arith in
      ap (λ (n : ℕ). sum_by f (range_with_len a n)) e ∙ sum_by-cons f a (range_with_len (a + 1) (b - (a + 1)))

  pub over-none : (a b : ℕ) → b ≤ a → over a b ≡ 0
  over-none a b h = let e : b - a ≡ 0 = omega arith in ap (λ (n : ℕ). sum_by f (range_with_len a n)) e

  over-parts : (d a b : ℕ) → a + d ≤ b → over a b ≡ over a (a + d) + over (a + d) b
  over-parts zero a b h =
      let e : a + 0 ≡ a = omega arith in
      omega (arith, over-none a (a + 0) (omega arith), ap (λ (x : ℕ). over x b) e)
  over-parts (suc d) a b h =
      let first = over-first a b (omega arith) in
      let later_part = over-parts d (a + 1) b (omega arith) in
      let e : a + 1 + d ≡ a + suc d = omega arith in
      let begin = over-first a (a + suc d) (omega arith) in
      omega (arith, first, later_part, begin, ap (λ (x : ℕ). over (a + 1) x) e, ap (λ (x : ℕ). over x b) e)

  -- from a up to b, by way of m
  pub over-by : (a m b : ℕ) → a ≤ m → m < b → over a b ≡ over a m + f m + over (m + 1) b
  over-by a m b low high =
      let parts = over-parts (m - a) a b (omega arith) in
      let e : a + (m - a) ≡ m = omega arith in
      omega (arith, parts, over-first m b high, ap (over a) e, ap (λ (x : ℕ). over x b) e)

  module _ (plan : List Phase) where
    -- the sum over the phases between two
    abbrev pub sum_between : ℕ → ℕ → ℕ
    sum_between s j = sum_by f (between plan s j)

    up : (s j : ℕ) → s < j → sum_between s j ≡ over (s + 1) j
    up s j h = ap (sum_by f) (sym (cond_below s j (range_with_len (s + 1) (j - (s + 1))) (range_with_len (s + 1) (length plan - (s + 1)) ++ range_with_len 0 j) h))

    pub round : (s j : ℕ) → j ≤ s → sum_between s j ≡ over (s + 1) (length plan) + over 0 j
    round s j h =
        let high = range_with_len (s + 1) (length plan - (s + 1)) in
        let both : List ℕ = high ++ range_with_len 0 j in
        let same : j ≡ j - 0 = omega arith in
        ap (sum_by f) (sym (cond_above s j (range_with_len (s + 1) (j - (s + 1))) both both h refl)) ∙ sum_by-append f high (range_with_len 0 j)
        ∙ ap (λ (n : ℕ). over (s + 1) (length plan) + sum_by f (range_with_len 0 n)) same

    -- where phase j is not between s and k, and is not k: those between s and j are at least k and those between k and j
    by-way : (s k j : ℕ) → s < length plan → k < length plan → j < length plan → (k ≡ j → ⊥) → (s < j → j < k → ⊥) → (k ≤ s → s < j → ⊥) → (k ≤ s → j < k → ⊥)
        → f k + sum_between k j ≤ sum_between s j
    by-way s k j hs hk hj other inside above below = elim (cases_lt s k) [
      | inl ascends ↦ elim (cases_lt k j) [
        | inl far ↦ omega (arith, up s j (omega arith), up k j far, over-by (s + 1) k j (omega arith) far)
        | inr near ↦
            let back : j ≤ s = elim (cases_lt s j) [ inl x ↦ absurd (inside x (elim (cases_lt j k) [ inl y ↦ y | inr y ↦ absurd (other (omega arith)) ])) | inr x ↦ x ] in
            omega (arith, round s j back, round k j near, over-by (s + 1) k (length plan) (omega arith) hk)
      ]
      | inr descends ↦
          let back : j ≤ s = elim (cases_lt s j) [ inl x ↦ absurd (above descends x) | inr x ↦ x ] in
          let far : k < j = elim (cases_lt k j) [ inl x ↦ x | inr x ↦ elim (cases_lt j k) [ inl y ↦ absurd (below descends y) | inr y ↦ absurd (other (omega arith)) ] ] in
          omega (arith, round s j back, up k j far, over-by 0 k j (omega arith) far)
    ]

-- a phase that is not marked is not among marked ones

unmarked-not : (plan : List Phase) (j : ℕ) → is_unmarked_at plan j ≡ true → IsMarkedAt plan j → ⊥
unmarked-not plan j free marked = true≢false (sym free ∙ ap not marked)

not-inside : (plan : List Phase) (s k j : ℕ) → is_unmarked_at plan j ≡ true → All (IsMarkedAt plan) (between plan s k) → s < j → j < k → ⊥
not-inside plan s k j free all low high =
    let same = cond_below s k (range_with_len (s + 1) (k - (s + 1))) (range_with_len (s + 1) (length plan - (s + 1)) ++ range_with_len 0 k) (omega (arith, low, high)) in
    unmarked-not plan j free (each-of-range (IsMarkedAt plan) (s + 1) k (subst (All (IsMarkedAt plan)) (sym same) all) j (omega (arith, low)) high)

not-above : (plan : List Phase) (s k j : ℕ) → j < length plan → is_unmarked_at plan j ≡ true → All (IsMarkedAt plan) (between plan s k) → k ≤ s → s < j → ⊥
not-above plan s k j hj free all round low =
    let both = (all-round (IsMarkedAt plan) plan s k (length plan) refl round).1 all in
    unmarked-not plan j free (each-of-range (IsMarkedAt plan) (s + 1) (length plan) both.0 j (omega (arith, low)) hj)

not-below : (plan : List Phase) (s k j : ℕ) → is_unmarked_at plan j ≡ true → All (IsMarkedAt plan) (between plan s k) → k ≤ s → j < k → ⊥
not-below plan s k j free all round low =
    let both = (all-round (IsMarkedAt plan) plan s k (length plan) refl round).1 all in
    unmarked-not plan j free (each-of-range (IsMarkedAt plan) 0 k both.1 j (omega arith) low)

-- from s the ring goes to k, and passes marked phases alone: the way to an unmarked phase j leads by k
pub passes-by : (f : ℕ → ℕ) (plan : List Phase) (s k j : ℕ) → s < length plan → k < length plan → j < length plan → (k ≡ j → ⊥) → is_unmarked_at plan j ≡ true
    → All (IsMarkedAt plan) (between plan s k) → f k + sum_by f (between plan k j) ≤ sum_by f (between plan s j)
passes-by f plan s k j hs hk hj other free all =
    by-way f plan s k j hs hk hj other (not-inside plan s k j free all) (not-above plan s k j hj free all) (not-below plan s k j free all)

-- a whole turn from j leads by each other phase
pub turn-by : (f : ℕ → ℕ) (plan : List Phase) (k j : ℕ) → k < length plan → j < length plan → (k ≡ j → ⊥) → f k + sum_by f (between plan k j) ≤ sum_by f (between plan j j)
turn-by f plan k j hk hj other =
    by-way f plan j k j hj hk hj other (λ x. absurd (omega arith)) (λ x y. omega arith) (λ x y. omega arith)
