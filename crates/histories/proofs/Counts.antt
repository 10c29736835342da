-- How often nodes stand in a history.
use Rattle.std.proofs.Common.{◌≡◌, ℕ, zero, suc, ◌+◌, ◌*◌, ◌<◌, ◌≤◌, eqb, cond, List, [], ◌∷◌, ◌++◌, take, drop, refl, sym, ap, ◌∙◌, arith, eq-eqb, ne_eqb, inl, inr}
use Rattle.std.specs.Prelude.{replicate, ◌⊎◌}
use Rattle.std.specs.List.{flat_map, range_with_len}
use Rattle.std.proofs.lemmas.Bool.{cases_eq, cases_lt}
use Rattle.std.proofs.lemmas.List.{take-append-drop, take-take}
use Rattle.std.proofs.lemmas.List.Sums.{sum_by-append, sum_by-cons}
use Rattle.std.proofs.lemmas.List.Folds.{sum_by-replicate}
use Rattle.histories.specs.Histories.{count}

pub count-append : (n : ℕ) (xs ys : List ℕ) → count n (xs ++ ys) ≡ count n xs + count n ys
count-append n xs ys = sum_by-append (λ m. cond (eqb m n) 1 0) xs ys

pub count-here : (n : ℕ) (xs : List ℕ) → count n (n ∷ xs) ≡ suc (count n xs)
count-here n xs = sum_by-cons (λ m. cond (eqb m n) 1 0) n xs ∙ ap (λ b. cond b 1 0 + count n xs) (eq-eqb n n refl) ∙ (let e : 1 + count n xs ≡ suc (count n xs) = omega arith in e)

pub count-else : (m n : ℕ) (xs : List ℕ) → (m ≡ n → ⊥) → count n (m ∷ xs) ≡ count n xs
count-else m n xs other = sum_by-cons (λ m. cond (eqb m n) 1 0) m xs ∙ ap (λ b. cond b 1 0 + count n xs) (ne_eqb m n other) ∙ (let e : 0 + count n xs ≡ count n xs = omega arith in e)

pub count-one : (n : ℕ) → count n (n ∷ []) ≡ 1
count-one n = count-here n []

-- of two places of a node, that of the earlier step comes first
count-part : (n i : ℕ) (xs : List ℕ) → count n (take i xs) ≤ count n xs
count-part n i xs = omega (arith, ap (count n) (take-append-drop i xs), count-append n (take i xs) (drop i xs))

pub count-grows : (n i j : ℕ) (h : List ℕ) → i ≤ j → count n (take i h) ≤ count n (take j h)
count-grows n i j h less = omega (arith, count-part n i (take j h), ap (count n) (take-take i j h less))

pub comes-first : (n i j : ℕ) (h : List ℕ) → count n (take i h) < count n (take j h) → i < j
comes-first n i j h less = elim (cases_lt i j) [
  | inl before ↦ before
  | inr past ↦ absurd (omega (arith, count-grows n j i h past))
]

-- a history in which no node stands is empty
pub no-count : (xs : List ℕ) → ((n : ℕ) → count n xs ≡ 0) → xs ≡ []
no-count [] none = refl
no-count (x ∷ xs) none = absurd (omega (arith, none x, count-here x xs))

-- of two beginnings of a list one is a beginning of the other
abbrev pub Goes : List ℕ → List ℕ → List ℕ → List ℕ → Type 0
Goes xs ys us vs = (zs : List ℕ) × (us ≡ xs ++ zs) × (ys ≡ zs ++ vs)

pub cuts : (xs ys us vs : List ℕ) → xs ++ ys ≡ us ++ vs → Goes xs ys us vs ⊎ Goes us vs xs ys
cuts [] ys us vs e = inl (us, refl, e)
cuts (x ∷ xs) ys [] vs e = inr (x ∷ xs, refl, sym e)
cuts (x ∷ xs) ys (a ∷ us) vs e =
    let h : x ≡ a = cc in
    let t : xs ++ ys ≡ us ++ vs = cc in
    elim (cuts xs ys us vs t) [
      | inl g ↦ inl (g.0, (ap (λ l. a ∷ l) g.1 ∙ ap (λ (k : ℕ). k ∷ (xs ++ g.0)) (sym h)), g.2)
      | inr g ↦ inr (g.0, (ap (λ l. x ∷ l) g.1 ∙ ap (λ (k : ℕ). k ∷ (us ++ g.0)) h), g.2)
    ]

-- how often a node stands where each one of a range stands f times
count-times : (n m k : ℕ) → count n (replicate k m) ≡ k * cond (eqb m n) 1 0
count-times n m k = sum_by-replicate (λ m. cond (eqb m n) 1 0) k m

times-here : (n k : ℕ) → count n (replicate k n) ≡ k
times-here n k = count-times n n k ∙ ap (λ b. k * cond b 1 0) (eq-eqb n n refl) ∙ (let e : k * 1 ≡ k = omega arith in e)

times-else : (n m k : ℕ) → (m ≡ n → ⊥) → count n (replicate k m) ≡ 0
times-else n m k other = count-times n m k ∙ ap (λ b. k * cond b 1 0) (ne_eqb m n other) ∙ (let e : k * 0 ≡ 0 = omega arith in e)

module _ (f : ℕ → ℕ) where
  abbrev pub spread : ℕ → ℕ → List ℕ
  spread from len = flat_map (λ m. replicate (f m) m) (range_with_len from len)

  before-spread : (n from len : ℕ) → n < from → count n (spread from len) ≡ 0
  before-spread n from zero less = refl
  before-spread n from (suc len) less = count-append n (replicate (f from) from) (spread (from + 1) len) ∙ (let a = times-else n from (f from) (λ e. omega arith) in let b = before-spread n (from + 1) len (omega arith) in let z : count n (replicate (f from) from) + count n (spread (from + 1) len) ≡ 0 = omega arith in z)

  pub past-spread : (n from len : ℕ) → from + len ≤ n → count n (spread from len) ≡ 0
  past-spread n from zero past = refl
  past-spread n from (suc len) past = count-append n (replicate (f from) from) (spread (from + 1) len) ∙ (let a = times-else n from (f from) (λ e. omega arith) in let b = past-spread n (from + 1) len (omega arith) in let z : count n (replicate (f from) from) + count n (spread (from + 1) len) ≡ 0 = omega arith in z)

  pub in-spread : (n from len : ℕ) → from ≤ n → n < from + len → count n (spread from len) ≡ f n
  in-spread n from zero least most = absurd (omega arith)
  in-spread n from (suc len) least most = count-append n (replicate (f from) from) (spread (from + 1) len) ∙ elim (cases_eq from n) [
    | inl here ↦
        let a : count n (replicate (f from) from) ≡ f n = ap (λ k. count n (replicate (f k) k)) here ∙ times-here n (f n) in
        let b : count n (spread (from + 1) len) ≡ 0 = before-spread n (from + 1) len (omega arith) in
        omega arith
    | inr there ↦
        let a = times-else n from (f from) there in
        let b = in-spread n (from + 1) len (omega arith) (omega arith) in
        omega arith
  ]
