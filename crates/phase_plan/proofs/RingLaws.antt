-- The ring: which phases it passes, and how long that takes.
use Rattle.std.proofs.Common.{◌≡◌, ℕ, zero, suc, ◌+◌, ◌-◌, ◌<◌, ◌≤◌, ◌≢◌, ◌||◌, ltb, Bool, true, false, not, cond, List, [], ◌∷◌, ◌++◌, length, map, filter, sum_by, get_or, All, refl, sym, ap, subst, ◌∙◌, inl, inr, arith}
use Rattle.std.specs.List.{range_with_len}
use Rattle.std.proofs.lemmas.Bool.{cases_lt, cond_below, cond_above, cond_both, ltb-true, ltb-false}
use Rattle.std.proofs.lemmas.List.{map-append}
use Rattle.std.proofs.lemmas.List.Sums.{sum_by-append}
use Rattle.std.proofs.lemmas.List.Elements.{All-append, All-cons, All-filter, All-get_or, All-head, All-nil, filter-append}
use Rattle.phase_plan.specs.Phases.{IsMarkedAt, IsPhase, IsRing, between, first_up, is_passed, is_unmarked_at, no_phase, one_up, passed_numbers, passes_all, passing, phase_at, stops_between}
use Rattle.phase_plan.specs.declared.Phase.{Phase}

-- the phases of a ring are within their bounds
pub phase-bounds : (plan : List Phase) (k : ℕ) → IsRing plan → k < length plan → IsPhase (phase_at plan k)
phase-bounds plan k p h = All-get_or IsPhase plan k no_phase h p.phases

-- what holds of the phases between two

all-range : (P : ℕ → Type 0) (a n : ℕ) → ((k : ℕ) → a ≤ k → k < a + n → P k) → All P (range_with_len a n)
all-range P a zero h = All-nil P
all-range P a (suc n) h =
    All-cons P a (range_with_len (a + 1) n) (h a (omega arith) (omega arith)) (all-range P (a + 1) n (λ k low high. h k (omega arith) (omega arith)))

all-between : (P : ℕ → Type 0) (plan : List Phase) (s j : ℕ) → (s < j → (k : ℕ) → s < k → k < j → P k) → (j ≤ s → (k : ℕ) → s < k → k < length plan → P k)
    → (j ≤ s → (k : ℕ) → k < j → P k) → All P (between plan s j)
all-between P plan s j up high low =
    let above = range_with_len (s + 1) (length plan - (s + 1)) in
    cond_both (ltb s j) (range_with_len (s + 1) (j - (s + 1))) (above ++ range_with_len 0 j) (All P)
    (λ e. let lt = ltb-true s j e in all-range P (s + 1) (j - (s + 1)) (λ k a b. up lt k (omega arith) (omega (arith, lt))))
    (λ e.
    let le = ltb-false s j e in
    All-append P above (range_with_len 0 j) (all-range P (s + 1) (length plan - (s + 1)) (λ k a b. high le k (omega arith) (omega arith)))
    (all-range P 0 j (λ k a b. low le k (omega arith))))

-- all between s and s are others than s
others : (plan : List Phase) (s : ℕ) → All (λ (k : ℕ). k ≢ s) (between plan s s)
others plan s =
    all-between (λ (k : ℕ). k ≢ s) plan s s (λ x. absurd (omega arith)) (λ x k low high e. absurd (omega arith)) (λ x k below e. absurd (omega arith))

-- the phases at which the ring stops by a test, where P holds of those at which it does not

-- from phase s through these phases, and then to phase j, P holds of all between one and the next
abbrev pub IsWalk : (ℕ → Type 0) → List Phase → ℕ → List ℕ → ℕ → Type 0
IsWalk P plan s [] j = All P (between plan s j)
IsWalk P plan s (k ∷ ks) j = (k < length plan) × All P (between plan s k) × IsWalk P plan k ks j

-- the first phase at which the ring stops, another than s
pub record IsFirstUp (P : ℕ → Type 0) (plan : List Phase) (s k : ℕ) : Type 0 where
  pub below : k < length plan
  pub other : k ≢ s
  pub passed : All P (between plan s k)

module _ (P : ℕ → Type 0) (plan : List Phase) (stops : ℕ → Bool) (free : (k : ℕ) → stops k ≡ false → P k) where
  free-more : (low a : ℕ) → ((k : ℕ) → low ≤ k → k < a → P k) → stops a ≡ false → (k : ℕ) → low ≤ k → k < a + 1 → P k
  free-more low a before e k above below = elim (cases_lt k a) [
    | inl lt ↦ before k above lt
    | inr le ↦ let same : a ≡ k = omega arith in subst P same (free a e)
  ]

  -- up the ring, where it stops at none after s and before a
  walk-up : (s a n j : ℕ) → s < a → a + n ≡ j → j < length plan → ((k : ℕ) → s + 1 ≤ k → k < a → P k) → IsWalk P plan s (filter stops (range_with_len a n)) j
  walk-up s a zero j lt e h before =
      all-between P plan s j (λ x k low high. before k (omega arith) (omega arith)) (λ x. absurd (omega arith)) (λ x. absurd (omega arith))
  walk-up s a (suc n) j lt e h before =
      let rest = filter stops (range_with_len (a + 1) n) in
      cond_both (stops a) (a ∷ rest) rest (λ ks. IsWalk P plan s ks j)
      (λ u. (
        omega arith,
        all-between P plan s a (λ x k low high. before k (omega arith) high) (λ x. absurd (omega arith)) (λ x. absurd (omega arith)),
        walk-up a (a + 1) n j (omega arith) (omega arith) h (λ k low high. absurd (omega arith)),
      ))
      (λ u. walk-up s (a + 1) n j (omega arith) (omega arith) h (free-more (s + 1) a before u))

  -- from the begin of the ring, where it stops at none after s and none below b
  walk-start : (s b m j : ℕ) → b + m ≡ j → j ≤ s → s < length plan → ((k : ℕ) → s < k → k < length plan → P k) → ((k : ℕ) → 0 ≤ k → k < b → P k)
      → IsWalk P plan s (filter stops (range_with_len b m)) j
  walk-start s b zero j e le h high low =
      all-between P plan s j (λ x. absurd (omega arith)) (λ x k above below. high k above below) (λ x k below. low k (omega arith) (omega arith))
  walk-start s b (suc m) j e le h high low =
      let rest = filter stops (range_with_len (b + 1) m) in
      cond_both (stops b) (b ∷ rest) rest (λ ks. IsWalk P plan s ks j)
      (λ u. (
        omega arith,
        all-between P plan s b (λ x. absurd (omega arith)) (λ x k above below. high k above below) (λ x k below. low k (omega arith) below),
        walk-up b (b + 1) m j (omega arith) (omega arith) (omega arith) (λ k above below. absurd (omega arith)),
      ))
      (λ u. walk-start s (b + 1) m j (omega arith) le h high (free-more 0 b low u))

  -- up to the end of the ring and from its begin, where it stops at none after s and before a
  walk-round : (s a n j : ℕ) → s < a → a + n ≡ length plan → j ≤ s → ((k : ℕ) → s + 1 ≤ k → k < a → P k)
      → IsWalk P plan s (filter stops (range_with_len a n ++ range_with_len 0 j)) j
  walk-round s a zero j lt e le before = walk-start s 0 j j (omega arith) le (omega arith) (λ k above below. before k (omega arith) (omega arith)) (λ k above below. absurd (omega arith))
  walk-round s a (suc n) j lt e le before =
      let rest = filter stops (range_with_len (a + 1) n ++ range_with_len 0 j) in
      cond_both (stops a) (a ∷ rest) rest (λ ks. IsWalk P plan s ks j)
      (λ u. (
        omega arith,
        all-between P plan s a (λ x k low high. before k (omega arith) high) (λ x. absurd (omega arith)) (λ x. absurd (omega arith)),
        walk-round a (a + 1) n j (omega arith) (omega arith) (omega arith) (λ k low high. absurd (omega arith)),
      ))
      (λ u. walk-round s (a + 1) n j (omega arith) (omega arith) le (free-more (s + 1) a before u))

  -- the ring goes through those at which it stops
  pub walk-stops : (s j : ℕ) → s < length plan → j < length plan → IsWalk P plan s (stops_between plan stops s j) j
  walk-stops s j hs hj =
      let up = range_with_len (s + 1) (j - (s + 1)) in
      let round : List ℕ = range_with_len (s + 1) (length plan - (s + 1)) ++ range_with_len 0 j in
      cond_both (ltb s j) up round (λ ks. IsWalk P plan s (filter stops ks) j)
      (λ e. let below = ltb-true s j e in walk-up s (s + 1) (j - (s + 1)) j (omega arith) (omega (arith, below)) hj (λ k low high. absurd (omega arith)))
      (λ e. let above = ltb-false s j e in walk-round s (s + 1) (length plan - (s + 1)) j (omega arith) (omega arith) above (λ k low high. absurd (omega arith)))

  -- the phase after s
  first-after : (s : ℕ) → s < length plan → 2 ≤ length plan → IsFirstUp P plan s (one_up plan s)
  first-after s h two = elim (cases_lt (s + 1) (length plan)) [
    | inl lt ↦ subst (IsFirstUp P plan s) (cond_below (s + 1) (length plan) (s + 1) 0 lt) (record {
      below = lt;
      other = λ e. omega arith;
      passed = all-between P plan s (s + 1) (λ x k low high. absurd (omega arith)) (λ x. absurd (omega arith)) (λ x. absurd (omega arith));
    })
    | inr le ↦ subst (IsFirstUp P plan s) (cond_above (s + 1) (length plan) (s + 1) 0 0 le refl) (record {
      below = omega arith;
      other = λ e. omega arith;
      passed = all-between P plan s 0 (λ x. absurd (omega arith)) (λ x k low high. absurd (omega arith)) (λ x k below. absurd (omega arith));
    })
  ]

  -- the first one at which it stops
  pub first-stop : (s : ℕ) → s < length plan → 2 ≤ length plan → IsFirstUp P plan s (first_up plan stops s)
  first-stop s h two = by (stops_between plan stops s s) refl (walk-stops s s h h) (All-filter stops (λ (k : ℕ). k ≢ s) (between plan s s) (others plan s))
    where
      by : (ks : List ℕ) → stops_between plan stops s s ≡ ks → IsWalk P plan s ks s → All (λ (k : ℕ). k ≢ s) ks → IsFirstUp P plan s (first_up plan stops s)
      by [] e walk apart =
          let is : one_up plan s ≡ first_up plan stops s = ap (λ (ns : List ℕ). get_or ns 0 (one_up plan s)) (sym e) in
          subst (IsFirstUp P plan s) is (first-after s h two)
      by (k ∷ ks) e walk apart =
          let is : k ≡ first_up plan stops s = ap (λ (ns : List ℕ). get_or ns 0 (one_up plan s)) (sym e) in
          subst (IsFirstUp P plan s) is (record { below = walk.0; other = All-head (λ (k : ℕ). k ≢ s) k ks apart; passed = walk.1 })

-- a ring that passes over marked phases alone: it stops at all unmarked ones, and maybe at others
abbrev pub PassesMarked : List Phase → (ℕ → Bool) → Type 0
PassesMarked plan stops = (k : ℕ) → stops k ≡ false → IsMarkedAt plan k

-- one that stops at the unmarked phases alone
pub passes-marked : (plan : List Phase) → PassesMarked plan (is_unmarked_at plan)
passes-marked plan k e = by (phase_at plan k).skip e
  where
    by : (b : Bool) → not b ≡ false → b ≡ true
    by true e = refl
    by false e = absurd cc

-- the first phase at which such a ring stops
pub first-up : (plan : List Phase) (stops : ℕ → Bool) (s : ℕ) → IsRing plan → PassesMarked plan stops → s < length plan → IsFirstUp (IsMarkedAt plan) plan s (first_up plan stops s)
first-up plan stops s p passes h = first-stop (IsMarkedAt plan) plan stops passes s h p.count.0

-- the ring on its way from s to j
pub passes-passed : (plan : List Phase) (s j : ℕ) → PassesMarked plan (is_passed plan s j)
passes-passed plan s j k e = passes-marked plan k (by (is_unmarked_at plan k) e)
  where
    by : (b : Bool) → (b || passes_all plan s j) ≡ false → b ≡ false
    by true e = e
    by false e = refl

-- the ring goes through the phases that it passes
pub walk-passed : (plan : List Phase) (s j : ℕ) → s < length plan → j < length plan → IsWalk (IsMarkedAt plan) plan s (passed_numbers plan s j) j
walk-passed plan s j = walk-stops (IsMarkedAt plan) plan (is_passed plan s j) (passes-passed plan s j) s j

-- those from a phase on at which it stops are the phase, where it stops there, and those after it
pub stops-first : (stops : ℕ → Bool) (k high : ℕ) (b : Bool) → k < high → stops k ≡ b
    → filter stops (range_with_len k (high - k)) ≡ cond b (k ∷ filter stops (range_with_len (k + 1) (high - (k + 1)))) (filter stops (range_with_len (k + 1) (high - (k + 1))))
stops-first stops k high b h is =
    let rest = filter stops (range_with_len (k + 1) (high - (k + 1))) in
    let e : high - k ≡ suc (high - (k + 1)) = omega arith in
    ap (λ (n : ℕ). filter stops (range_with_len k n)) e ∙ ap (λ (b : Bool). cond b (k ∷ rest) rest) is

-- the unmarked ones of these numbers
abbrev pub unmarked : List Phase → List ℕ → List ℕ
unmarked plan ks = filter (is_unmarked_at plan) ks

-- those from a phase on are the phase, where it is unmarked, and those after it
pub unmarked-first : (plan : List Phase) (k high : ℕ) (mark : Bool) → k < high → (phase_at plan k).skip ≡ mark
    → unmarked plan (range_with_len k (high - k)) ≡ cond (not mark) (k ∷ unmarked plan (range_with_len (k + 1) (high - (k + 1)))) (unmarked plan (range_with_len (k + 1) (high - (k + 1))))
unmarked-first plan k high mark h is = stops-first (is_unmarked_at plan) k high (not mark) h (ap not is)

-- how long the ring takes

-- the time at phases with these numbers
abbrev pub time_at : List Phase → List ℕ → ℕ
time_at plan ks = sum_by passing (map (λ k. phase_at plan k) ks)

pub time_at-append : (plan : List Phase) (ks ls : List ℕ) → time_at plan (ks ++ ls) ≡ time_at plan ks + time_at plan ls
time_at-append plan ks ls =
    ap (sum_by passing) (map-append (λ k. phase_at plan k) ks ls) ∙ sum_by-append passing (map (λ k. phase_at plan k) ks) (map (λ k. phase_at plan k) ls)

-- the numbers of these at which it stops, the unmarked ones or all
abbrev pub stopping : List Phase → Bool → List ℕ → List ℕ
stopping plan all ks = filter (λ k. is_unmarked_at plan k || all) ks

-- one number more
range-more : (a n j : ℕ) → a + n ≡ j → range_with_len a (suc n) ≡ range_with_len a n ++ j ∷ []
range-more a zero j e = let same : a ≡ j = omega arith in ap (λ (k : ℕ). k ∷ []) same
range-more a (suc n) j e = ap (λ (ks : List ℕ). a ∷ ks) (range-more (a + 1) n j (omega arith))

-- the time up to a phase and at it
pub time_at-more : (plan : List Phase) (all : Bool) (low k : ℕ) → low ≤ k
    → time_at plan (stopping plan all (range_with_len low (k + 1 - low)))
    ≡ time_at plan (stopping plan all (range_with_len low (k - low))) + cond (is_unmarked_at plan k || all) (passing (phase_at plan k)) 0
time_at-more plan all low k h =
    let n = k - low in
    let here : low + n ≡ k = omega arith in
    let more : k + 1 - low ≡ suc n = omega arith in
    ap (λ (m : ℕ). time_at plan (stopping plan all (range_with_len low m))) more
    ∙ ap (λ (ks : List ℕ). time_at plan (stopping plan all ks)) (range-more low n k here)
    ∙ ap (time_at plan) (filter-append (λ k. is_unmarked_at plan k || all) (range_with_len low n) (k ∷ []))
    ∙ time_at-append plan (stopping plan all (range_with_len low n)) (stopping plan all (k ∷ []))
    ∙ ap (λ (t : ℕ). time_at plan (stopping plan all (range_with_len low n)) + t) (one (is_unmarked_at plan k || all))
  where
    one : (b : Bool) → time_at plan (cond b (k ∷ []) []) ≡ cond b (passing (phase_at plan k)) 0
    one true = omega arith
    one false = refl

-- up to a later phase, where it passes all or the unmarked ones
pub passed-up : (plan : List Phase) (s j : ℕ) (all : Bool) → all ≡ passes_all plan s j → s < j
    → time_at plan (passed_numbers plan s j) ≡ time_at plan (stopping plan all (range_with_len (s + 1) (j - (s + 1))))
passed-up plan s j all is h =
    ap (λ (b : Bool). time_at plan (stopping plan b (between plan s j))) (sym is)
    ∙ ap (λ (ks : List ℕ). time_at plan (stopping plan all ks))
    (sym (cond_below s j (range_with_len (s + 1) (j - (s + 1))) (range_with_len (s + 1) (length plan - (s + 1)) ++ range_with_len 0 j) h))

-- up to the end of the ring, and from its begin
pub passed-round : (plan : List Phase) (s j : ℕ) (all : Bool) → all ≡ passes_all plan s j → j ≤ s
    → time_at plan (passed_numbers plan s j)
    ≡ time_at plan (stopping plan all (range_with_len (s + 1) (length plan - (s + 1)))) + time_at plan (stopping plan all (range_with_len 0 (j - 0)))
passed-round plan s j all is h =
    let up = range_with_len (s + 1) (length plan - (s + 1)) in
    let both : List ℕ = up ++ range_with_len 0 j in
    let same : j ≡ j - 0 = omega arith in
    ap (λ (b : Bool). time_at plan (stopping plan b (between plan s j))) (sym is)
    ∙ ap (λ (ks : List ℕ). time_at plan (stopping plan all ks)) (sym (cond_above s j (range_with_len (s + 1) (j - (s + 1))) both both h refl))
    ∙ ap (λ n. time_at plan (stopping plan all (up ++ range_with_len 0 n))) same
    ∙ ap (time_at plan) (filter-append (λ k. is_unmarked_at plan k || all) up (range_with_len 0 (j - 0)))
    ∙ time_at-append plan (stopping plan all up) (stopping plan all (range_with_len 0 (j - 0)))
