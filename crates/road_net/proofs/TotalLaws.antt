-- Sums over the numbers below a bound.
use Rattle.std.proofs.Common.{◌≡◌, ◌≢◌, ℕ, zero, suc, ◌+◌, ◌<◌, ◌≤◌, eqb, cond, refl, sym, ap, inl, inr, arith}
use Rattle.std.proofs.lemmas.Bool.Decides.{eqb_tells}
use Rattle.road_net.specs.Totals.{total}

pub total-same : (f g : ℕ → ℕ) (n : ℕ) → ((i : ℕ) → i < n → f i ≡ g i) → total f n ≡ total g n
total-same f g zero same = refl
total-same f g (suc n) same =
    let before = total-same f g n (λ i h. same i (omega arith)) in
    let here = same n (omega arith) in
    cc

pub total-add : (f g : ℕ → ℕ) (n : ℕ) → total (λ i. f i + g i) n ≡ total f n + total g n
total-add f g zero = omega arith
total-add f g (suc n) = omega (arith, total-add f g n)

pub total-zero : (n : ℕ) → total (λ i. 0) n ≡ 0
total-zero zero = refl
total-zero (suc n) = omega (arith, total-zero n)

-- the order of two sums does not matter
pub total-swap : (f : ℕ → ℕ → ℕ) (m n : ℕ) → total (λ i. total (f i) m) n ≡ total (λ j. total (λ i. f i j) n) m
total-swap f m zero = sym (total-zero m)
total-swap f m (suc n) = omega (arith, total-swap f m n, total-add (λ j. total (λ i. f i j) n) (f n) m)

-- a sum of greater values is greater
pub total-le : (f g : ℕ → ℕ) (n : ℕ) → ((i : ℕ) → i < n → f i ≤ g i) → total f n ≤ total g n
total-le f g zero less = omega arith
total-le f g (suc n) less = omega (arith, total-le f g n (λ i h. less i (omega arith)), less n (omega arith))

-- each value is within the whole, and with it the sum of those before
pub total-more : (f : ℕ → ℕ) (n i : ℕ) → i < n → total f i + f i ≤ total f n
total-more f zero i h = omega arith
total-more f (suc n) i h = elim (eqb_tells i n) [
  | inl p ↦ omega (arith, ap f p.1, ap (total f) p.1)
  | inr q ↦ let other : i < n = (let ne = q.1 in omega arith) in omega (arith, total-more f n i other)
]

-- the value at one number alone
abbrev pub only_at : ℕ → (ℕ → ℕ) → ℕ → ℕ
only_at e g l = cond (eqb e l) (g l) 0

only_at-other : (e : ℕ) (g : ℕ → ℕ) (l : ℕ) → e ≢ l → only_at e g l ≡ 0
only_at-other e g l other = elim (eqb_tells e l) [ inl p ↦ absurd (other p.1) | inr q ↦ rw q.0 refl ]

only_at-here : (e : ℕ) (g : ℕ → ℕ) (l : ℕ) → e ≡ l → only_at e g l ≡ g e
only_at-here e g l same = elim (eqb_tells e l) [ inl p ↦ rw p.0 (ap g (sym same)) | inr q ↦ absurd (q.1 same) ]

-- past the number nothing is added
total-only_before : (e : ℕ) (g : ℕ → ℕ) (n : ℕ) → n ≤ e → total (only_at e g) n ≡ 0
total-only_before e g zero h = refl
total-only_before e g (suc n) h = omega (arith, total-only_before e g n (omega arith), only_at-other e g n (omega arith))

pub total-only : (e : ℕ) (g : ℕ → ℕ) (n : ℕ) → e < n → total (only_at e g) n ≡ g e
total-only e g zero h = absurd (omega arith)
total-only e g (suc n) h = elim (eqb_tells e n) [
  | inl p ↦ omega (arith, total-only_before e g n (omega (arith, p.1)), only_at-here e g n p.1)
  | inr q ↦
      let ne = q.1 in
      let inside : e < n = omega arith in
      omega (arith, total-only e g n inside, only_at-other e g n ne)
]
