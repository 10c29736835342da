-- Sums and lists over the numbers below n.
use Rattle.std.proofs.Common.{◌≡◌, ◌≢◌, ℕ, zero, suc, ◌+◌, ◌*◌, ◌<◌, ◌≤◌, eqb, if◌then◌else◌, map, refl, sym, ap, ◌∙◌, inl, inr, arith}
use Rattle.std.specs.List.{range_with_len}
use Rattle.std.proofs.lemmas.List.FromFn.{length-map-range_with_len, get_or-map-range_with_len, fill_by_all}
use Rattle.std.proofs.lemmas.Bool.Decides.{eqb_tells}
use Rattle.road_net.specs.Totals.{total}
use Rattle.road_net.proofs.TotalLaws.{total-same, total-more}

pub total-part : (f : ℕ → ℕ) (n i : ℕ) → i < n → f i ≤ total f n
total-part f n i h = omega (arith, total-more f n i h)

-- without the value at e
abbrev pub without : ℕ → (ℕ → ℕ) → ℕ → ℕ
without e g l = if eqb l e then 0 else g l

without-here : (e : ℕ) (g : ℕ → ℕ) (l : ℕ) → l ≡ e → without e g l ≡ 0
without-here e g l same = elim (eqb_tells l e) [ inl p ↦ rw p.0 refl | inr q ↦ absurd (q.1 same) ]

pub without-other : (e : ℕ) (g : ℕ → ℕ) (l : ℕ) → l ≢ e → without e g l ≡ g l
without-other e g l other = elim (eqb_tells l e) [ inl p ↦ absurd (other p.1) | inr q ↦ rw q.0 refl ]

pub total-without : (e : ℕ) (g : ℕ → ℕ) (n : ℕ) → e < n → total g n ≡ g e + total (without e g) n
total-without e g zero h = omega arith
total-without e g (suc n) h = elim (eqb_tells e n) [
  | inl p ↦
      let rest = total-same g (without e g) n (λ i b. sym (without-other e g i (omega (arith, p.1)))) in
      omega (arith, rest, without-here e g n (sym p.1), ap g p.1)
  | inr q ↦
      let ne : n ≢ e = (λ same. q.1 (sym same)) in
      let inside : e < n = (let f = q.1 in omega arith) in
      omega (arith, total-without e g n inside, without-other e g n ne)
]

-- a sum of numbers up to 2,000,000,000
pub total-most : (f : ℕ → ℕ) (n : ℕ) → ((i : ℕ) → i < n → f i ≤ 2000000000) → total f n ≤ n * 2000000000
total-most f zero small = omega arith
total-most f (suc n) small = omega (arith, total-most f n (λ i h. small i (omega arith)), small n (omega arith))

-- a sum of the same number
pub total-of : (a n : ℕ) → total (λ i. a) n ≡ n * a
total-of a zero = omega arith
total-of a (suc n) = omega (arith, total-of a n)

pub range-same : {X : Type 0} (f g : ℕ → X) (n : ℕ) → ((i : ℕ) → i < n → f i ≡ g i) → map f (range_with_len 0 n) ≡ map g (range_with_len 0 n)
range-same f g n same = fill_by_all g (map f (range_with_len 0 n)) n (f 0) (length-map-range_with_len f 0 n) (λ k h. get_or-map-range_with_len f 0 n k k (f 0) h (omega arith) ∙ same k h)
