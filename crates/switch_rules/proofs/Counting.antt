use Rattle.std.proofs.Common.{◌≡◌, ℕ, zero, suc, ◌+◌, ◌-◌, ◌*◌, ◌/◌, ◌^◌, ◌<◌, ◌≤◌, cond, nat_lt, List, [], ◌∷◌, length, map, sum, sum_by, get_or, min, refl, sym, ap, subst, ◌∙◌, inl, inr, add-one, arith, length-set}
use Rattle.std.proofs.Math.Nat.{mul_comm, mul-le-mul_left, mul-div_cancel_left}
use Rattle.std.specs.List.{range_with_len}
use Rattle.std.proofs.lemmas.List.{length-map}
use Rattle.std.proofs.lemmas.List.Concat.{length-flat_map}
use Rattle.std.proofs.lemmas.List.Sums.{sum_by-cons}
use Rattle.std.proofs.lemmas.Bool.{cases_lt, cond_below, cond_above}
use Rattle.switch_rules.specs.Orders.{one_less, orders_of, choose, mixtures}

-- there are at most as many choices as subsets
pub choose-le : (n k : ℕ) → choose n k ≤ 2 ^ n
choose-le zero zero = omega arith
choose-le (suc n) zero = let h = choose-le n zero in omega arith
choose-le zero (suc k) = omega arith
choose-le (suc n) (suc k) = omega (arith, choose-le n k, choose-le n (suc k))

-- more than there are cannot be chosen
pub choose-above : (n k : ℕ) → n < k → choose n k ≡ 0
choose-above n zero h = absurd (omega arith)
choose-above zero (suc k) h = refl
choose-above (suc n) (suc k) h = omega (arith, choose-above n k (omega arith), choose-above n (suc k) (omega arith))

-- there is one way to choose all
pub choose-all : (n : ℕ) → choose n n ≡ 1
choose-all zero = refl
choose-all (suc n) = omega (arith, choose-all n, choose-above n (suc n) (omega arith))

pub choose-same : (n k m l : ℕ) → n ≡ m → k ≡ l → choose n k ≡ choose m l
choose-same n k m l e f = ap (λ x. choose x k) e ∙ ap (λ x. choose m x) f

choose-whole : (n k : ℕ) → n ≡ k → choose n k ≡ 1
choose-whole n k e = ap (λ x. choose x k) e ∙ choose-all k

-- to choose some is to leave the others
pub choose-others : (few others : ℕ) → choose (few + others) few ≡ choose (few + others) others
choose-others zero others = sym (choose-whole (0 + others) others (omega arith))
choose-others (suc few) zero = choose-whole (suc few + 0) (suc few) (omega arith)
choose-others (suc few) (suc others) =
    omega (
      arith,
      choose-same (suc few + suc others) (suc few) (suc (few + suc others)) (suc few) (omega arith) refl,
      choose-same (suc few + suc others) (suc others) (suc (few + suc others)) (suc others) (omega arith) refl,
      choose-others few (suc others),
      choose-others (suc few) others,
      choose-same (few + suc others) (suc few) (suc few + others) (suc few) (omega arith) refl,
      choose-same (few + suc others) others (suc few + others) others (omega arith) refl,
    )

-- to choose k + 1 and name one of them, name one and choose k of the others
pub choose-step : (n k : ℕ) → suc k * choose (suc n) (suc k) ≡ suc n * choose n k
choose-step zero zero = refl
choose-step zero (suc k) = omega arith
choose-step (suc n) zero = omega (arith, choose-step n zero)
choose-step (suc n) (suc k) = omega (arith, choose-step n k, choose-step n (suc k))

-- the same as a quotient
pub choose-more : (n i : ℕ) → choose n i * (n + 1) / (i + 1) ≡ choose (n + 1) (i + 1)
choose-more n i =
    rw (add-one n, add-one i)
    (ap (λ m. m / suc i) (mul_comm (choose n i) (suc n) ∙ sym (choose-step n i)) ∙ mul-div_cancel_left (choose (suc n) (suc i)) (omega arith))

sum-cons : (n : ℕ) (counts : List ℕ) → sum (n ∷ counts) ≡ n + sum counts
sum-cons n counts = sum_by-cons (λ x. x) n counts

-- a phase has no more than all have
pub count-le-sum : (counts : List ℕ) (p : ℕ) → get_or counts p 0 ≤ sum counts
count-le-sum [] p = omega arith
count-le-sum (n ∷ counts) zero = omega (arith, sum-cons n counts)
count-le-sum (n ∷ counts) (suc p) = omega (arith, sum-cons n counts, count-le-sum counts p)

-- one less of a phase that has one is one less in all
pub sum-one_less : (counts : List ℕ) (p : ℕ) → 0 < get_or counts p 0 → sum (one_less counts p) + 1 ≡ sum counts
sum-one_less [] p h = absurd (omega arith)
sum-one_less (n ∷ counts) zero h = omega (arith, sum-cons n counts, sum-cons (n - 1) counts)
sum-one_less (n ∷ counts) (suc p) h = omega (arith, sum-cons n counts, sum-cons n (one_less counts p), sum-one_less counts p h)

pub length-one_less : (counts : List ℕ) (p : ℕ) → length (one_less counts p) ≡ length counts
length-one_less counts p = length-set counts p (get_or counts p 0 - 1)

-- sums over the same terms, over terms with a common factor, and over the places from a + 1 on
sum_by-same : {X : Type 0} (f g : X → ℕ) → ((x : X) → f x ≡ g x) → (xs : List X) → sum_by f xs ≡ sum_by g xs
sum_by-same f g h [] = refl
sum_by-same f g h (x ∷ xs) = sum_by-cons f x xs ∙ (omega (arith, h x, sum_by-same f g h xs, sum_by-cons g x xs))

sum_by-scaled : {X : Type 0} (k : ℕ) (f : X → ℕ) (xs : List X) → sum_by (λ x. k * f x) xs ≡ k * sum_by f xs
sum_by-scaled k f [] = omega arith
sum_by-scaled k f (x ∷ xs) = sum_by-cons (λ y. k * f y) x xs ∙ (omega (arith, sum_by-scaled k f xs, ap (λ m. k * m) (sum_by-cons f x xs)))

sum_by-shifted : (f : ℕ → ℕ) (a n : ℕ) → sum_by f (range_with_len (a + 1) n) ≡ sum_by (λ p. f (p + 1)) (range_with_len a n)
sum_by-shifted f a zero = refl
sum_by-shifted f a (suc n) =
    sum_by-cons f (a + 1) (range_with_len (a + 1 + 1) n) ∙ omega (arith, sum_by-shifted f (a + 1) n, sum_by-cons (λ p. f (p + 1)) a (range_with_len (a + 1) n))

-- there is one way to choose none
choose-none : (n s : ℕ) → n ≡ 0 → choose (n + s) n ≡ 1
choose-none n s e = let P : ℕ → Type 0 = λ k. choose (k + s) k ≡ 1 in subst P (sym e) refl

mixtures-none : (counts : List ℕ) → sum counts ≡ 0 → mixtures counts ≡ 1
mixtures-none [] h = refl
mixtures-none (n ∷ counts) h =
    ap (λ m. m * mixtures counts) (choose-none n (sum counts) (omega (arith, sum-cons n counts)))
    ∙ omega (arith, mixtures-none counts (omega (arith, sum-cons n counts)))

-- the mixtures that begin with phase p
abbrev beginning : List ℕ → ℕ → ℕ
beginning counts p = cond (nat_lt 0 (get_or counts p 0)) (mixtures (one_less counts p)) 0

beginning-some : (counts : List ℕ) (p : ℕ) → 0 < get_or counts p 0 → beginning counts p ≡ mixtures (one_less counts p)
beginning-some counts p h = sym (cond_below 0 (get_or counts p 0) (mixtures (one_less counts p)) 0 h)

beginning-none : (counts : List ℕ) (p : ℕ) → get_or counts p 0 ≤ 0 → beginning counts p ≡ 0
beginning-none counts p h = sym (cond_above 0 (get_or counts p 0) (mixtures (one_less counts p)) 0 0 h refl)

-- the mixtures that begin with a later phase, by those of the later phases alone
beginning-later : (n : ℕ) (counts : List ℕ) (p : ℕ) → beginning (n ∷ counts) (p + 1) ≡ choose (n + sum counts - 1) n * beginning counts p
beginning-later n counts p = rw (add-one p) (elim (cases_lt 0 (get_or counts p 0)) [
  | inl h ↦
      beginning-some (n ∷ counts) (suc p) h
      ∙ ap (λ k. choose k n * mixtures (one_less counts p)) (let e : n + sum (one_less counts p) ≡ n + sum counts - 1 = omega (arith, sum-one_less counts p h) in e)
      ∙ ap (λ m. choose (n + sum counts - 1) n * m) (sym (beginning-some counts p h))
  | inr h ↦
      beginning-none (n ∷ counts) (suc p) h
      ∙ (let e : 0 ≡ choose (n + sum counts - 1) n * 0 = omega arith in e)
      ∙ ap (λ m. choose (n + sum counts - 1) n * m) (sym (beginning-none counts p h))
])

beginnings : List ℕ → ℕ
beginnings counts = sum_by (beginning counts) (range_with_len 0 (length counts))

beginnings-cons : (n : ℕ) (counts : List ℕ) → beginnings (n ∷ counts) ≡ beginning (n ∷ counts) 0 + choose (n + sum counts - 1) n * beginnings counts
unfolding beginnings
beginnings-cons n counts =
    sum_by-cons (beginning (n ∷ counts)) 0 (range_with_len (0 + 1) (length counts))
    ∙ ap (λ m. beginning (n ∷ counts) 0 + m)
    (sum_by-shifted (beginning (n ∷ counts)) 0 (length counts)
    ∙ sum_by-same (λ p. beginning (n ∷ counts) (p + 1)) (λ p. choose (n + sum counts - 1) n * beginning counts p) (beginning-later n counts) (range_with_len 0 (length counts))
    ∙ sum_by-scaled (choose (n + sum counts - 1) n) (beginning counts) (range_with_len 0 (length counts)))

-- where nothing is left, nothing begins
sum_by-none : {X : Type 0} (f : X → ℕ) → ((x : X) → f x ≡ 0) → (xs : List X) → sum_by f xs ≡ 0
sum_by-none f h [] = refl
sum_by-none f h (x ∷ xs) = sum_by-cons f x xs ∙ omega (arith, h x, sum_by-none f h xs)

beginnings-none : (counts : List ℕ) → sum counts ≡ 0 → beginnings counts ≡ 0
unfolding beginnings
beginnings-none counts h = sum_by-none (beginning counts) (λ p. beginning-none counts p (omega (arith, count-le-sum counts p))) (range_with_len 0 (length counts))

-- the first group gives the next thing, or another group does
pascal : (n s m : ℕ) → 0 < n + s → cond (nat_lt 0 n) (choose (n - 1 + s) (n - 1) * m) 0 + choose (n + s - 1) n * cond (nat_lt 0 s) m 0 ≡ choose (n + s) n * m
pascal zero zero m h = absurd (omega arith)
pascal zero (suc s) m h = omega (arith, cond_below 0 (suc s) m 0 (omega arith))
pascal (suc n) zero m h =
    let first : choose (suc n - 1 + 0) (suc n - 1) ≡ 1 = choose-whole (suc n - 1 + 0) (suc n - 1) (omega arith) in
    let whole : choose (suc n + 0) (suc n) ≡ 1 = choose-whole (suc n + 0) (suc n) (omega arith) in
    omega (arith, cond_below 0 (suc n) (choose (suc n - 1 + 0) (suc n - 1) * m) 0 (omega arith), ap (λ k. k * m) first, ap (λ k. k * m) whole)
pascal (suc n) (suc s) m h =
    let first : choose (suc n - 1 + suc s) (suc n - 1) ≡ choose (n + suc s) n = choose-same (suc n - 1 + suc s) (suc n - 1) (n + suc s) n (omega arith) (omega arith) in
    let later : choose (suc n + suc s - 1) (suc n) ≡ choose (n + suc s) (suc n) = choose-same (suc n + suc s - 1) (suc n) (n + suc s) (suc n) (omega arith) refl in
    let both : choose (suc n + suc s) (suc n) ≡ choose (n + suc s) n + choose (n + suc s) (suc n) = choose-same (suc n + suc s) (suc n) (suc (n + suc s)) (suc n) (omega arith) refl in
    omega (
      arith,
      cond_below 0 (suc n) (choose (suc n - 1 + suc s) (suc n - 1) * m) 0 (omega arith),
      ap (λ k. choose (suc n + suc s - 1) (suc n) * k) (cond_below 0 (suc s) m 0 (omega arith)),
      ap (λ k. k * m) first,
      ap (λ k. k * m) later,
      ap (λ k. k * m) both,
    )

-- every mixture of something begins with one of the phases
beginnings-all : (counts : List ℕ) → beginnings counts ≡ cond (nat_lt 0 (sum counts)) (mixtures counts) 0
beginnings-all [] = beginnings-none [] refl
beginnings-all (n ∷ counts) = elim (cases_lt 0 (sum (n ∷ counts))) [
  | inl h ↦
      beginnings-cons n counts
      ∙ ap (λ m. beginning (n ∷ counts) 0 + choose (n + sum counts - 1) n * m) (beginnings-all counts)
      ∙ pascal n (sum counts) (mixtures counts) (omega (arith, sum-cons n counts))
      ∙ cond_below 0 (sum (n ∷ counts)) (mixtures (n ∷ counts)) 0 h
  | inr h ↦ beginnings-none (n ∷ counts) (omega arith) ∙ cond_above 0 (sum (n ∷ counts)) (mixtures (n ∷ counts)) 0 0 h refl
]

-- there are as many orders as mixtures
pub length-orders_of : (total : ℕ) (counts : List ℕ) → sum counts ≡ total → length (orders_of total counts) ≡ mixtures counts
unfolding beginnings
length-orders_of zero counts h = sym (mixtures-none counts h)
length-orders_of (suc total) counts h =
    let f : ℕ → List (List ℕ) = λ p. cond (nat_lt 0 (get_or counts p 0)) (map (λ order. p ∷ order) (orders_of total (one_less counts p))) [] in
    let each : (p : ℕ) → length (f p) ≡ beginning counts p = λ p. elim (cases_lt 0 (get_or counts p 0)) [
      | inl some ↦
          ap length (sym (cond_below 0 (get_or counts p 0) (map (λ order. p ∷ order) (orders_of total (one_less counts p))) [] some))
          ∙ length-map (orders_of total (one_less counts p)) (λ order. p ∷ order)
          ∙ length-orders_of total (one_less counts p) (omega (arith, sum-one_less counts p some))
          ∙ sym (beginning-some counts p some)
      | inr none ↦
          ap length (sym (cond_above 0 (get_or counts p 0) (map (λ order. p ∷ order) (orders_of total (one_less counts p))) [] [] none refl))
          ∙ sym (beginning-none counts p none)
    ] in
    length-flat_map f (range_with_len 0 (length counts))
    ∙ sum_by-same (λ p. length (f p)) (beginning counts) each (range_with_len 0 (length counts))
    ∙ beginnings-all counts
    ∙ sym (cond_below 0 (sum counts) (mixtures counts) 0 (omega arith))

-- a product of which one factor is cut off
pub min-mul : (most m c : ℕ) → 1 ≤ c → min most (min most m * c) ≡ min most (c * m)
min-mul most m c h = elim (cases_lt m most) [
  | inl below ↦ ap (λ k. min most (k * c)) (let e : min most m ≡ m = omega arith in e) ∙ ap (min most) (mul_comm m c)
  | inr above ↦
      let cut : min most (min most m * c) ≡ most = ap (λ k. min most (k * c)) (let e : min most m ≡ most = omega arith in e) ∙ omega (arith, mul-le-mul_left most h) in
      let whole : min most (c * m) ≡ most = omega (arith, mul-le-mul_left c above, mul-le-mul_left most h) in
      cut ∙ sym whole
]

-- a group can be chosen
pub choose-some : (n k : ℕ) → k ≤ n → 1 ≤ choose n k
choose-some n zero h = omega arith
choose-some zero (suc k) h = absurd (omega arith)
choose-some (suc n) (suc k) h = omega (arith, choose-some n k (omega arith))
