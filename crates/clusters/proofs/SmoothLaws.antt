use Rattle.std.proofs.Common.{◌≡◌, ℕ, zero, suc, ◌+◌, ◌-◌, ◌*◌, ◌<◌, ◌≤◌, ◌≢◌, List, length, take, sum, set, get_or, below_more, get_or-set_other, get_or-set_same, min, refl, arith, add-one}
use Rattle.std.proofs.lemmas.List.Sums.{sum_by_more, sum_by-take-le}
use Rattle.std.proofs.lemmas.List.FromFn.{fill_by_all}
use Rattle.clusters.specs.Smoothing.{least_to, left_by, smoothed}

-- the least of numbers that are all c more is c more
least-raised : (f g : ℕ → ℕ) (c n : ℕ) → ((m : ℕ) → m ≤ n → g m ≡ f m + c) → least_to g n ≡ least_to f n + c
unfolding least_to
least-raised f g c zero h = h zero (omega arith)
least-raised f g c (suc n) h = omega (arith, least-raised f g c n (λ m le. h m (omega arith)), h (suc n) (omega arith))

rate-more : (sat n m d : ℕ) → m + d ≡ n → sat * (suc n - m) ≡ sat * (n - m) + sat
rate-more sat n m d h =
    let e : suc n - m ≡ suc d = omega arith in
    let f : n - m ≡ d = omega arith in
    rw (e, f) (omega arith)

pub left-none : (sat : ℕ) (amounts : List ℕ) → left_by sat amounts 0 ≡ 0
unfolding left_by least_to
left-none sat amounts = omega arith

-- in one more second there leaves as much as can, or all that has come has left
pub left-more : (sat : ℕ) (amounts : List ℕ) (n : ℕ) → left_by sat amounts (suc n) ≡ min (left_by sat amounts n + sat) (sum (take (suc n) amounts))
unfolding left_by least_to
left-more sat amounts n =
    let f : ℕ → ℕ = λ m. sum (take m amounts) + sat * (n - m) in
    let g : ℕ → ℕ = λ m. sum (take m amounts) + sat * (suc n - m) in
    let raised : least_to g n ≡ least_to f n + sat =
    least-raised f g sat n (λ m le. let e : sat * (suc n - m) ≡ sat * (n - m) + sat = rate-more sat n m (n - m) (omega arith) in omega (arith, e)) in
    let none : suc n - suc n ≡ 0 = omega arith in
    let last : g (suc n) ≡ sum (take (suc n) amounts) = rw none (omega arith) in
    rw (raised, last) refl

-- What has left with what is carried is what has come: one more second.
pub carried : (sat : ℕ) (amounts : List ℕ) (i carry amount : ℕ)
    → i < length amounts → amount ≡ get_or amounts i 0 → carry + left_by sat amounts i ≡ sum (take i amounts)
    → (min (carry + amount) sat ≡ left_by sat amounts (i + 1) - left_by sat amounts i)
    × ((carry + amount - min (carry + amount) sat) + left_by sat amounts (i + 1) ≡ sum (take (i + 1) amounts))
carried sat amounts i carry amount lt e h =
    rw (add-one i)
    (let more : sum (take (suc i) amounts) ≡ sum (take i amounts) + get_or amounts i 0 = rw (add-one i) at (sum_by_more (λ x. x) amounts i 0 lt) in
    (omega (arith, left-more sat amounts i, more), omega (arith, left-more sat amounts i, more)))

pub within : (amounts : List ℕ) (i : ℕ) → i < length amounts → sum (take i amounts) + get_or amounts i 0 ≤ sum amounts
within amounts i lt = omega (arith, sum_by_more (λ x. x) amounts i 0 lt, sum_by-take-le (λ x. x) amounts (i + 1))

-- In the first i places stands what leaves, in the others what comes, and with what is carried that is all that has come.
pub record IsSmoothing (sat : ℕ) (amounts places : List ℕ) (i carry : ℕ) : Type 0 where
  pub done : (k : ℕ) → k < i → get_or places k 0 ≡ left_by sat amounts (k + 1) - left_by sat amounts k
  pub rest : (k : ℕ) → i ≤ k → get_or places k 0 ≡ get_or amounts k 0
  pub carried : carry + left_by sat amounts i ≡ sum (take i amounts)

pub smoothing-none : (sat : ℕ) (amounts : List ℕ) → IsSmoothing sat amounts amounts 0 0
smoothing-none sat amounts = record {
  done = λ k h. absurd (omega arith);
  rest = λ k h. refl;
  carried = omega (arith, left-none sat amounts);
}

pub smoothing-fits : (sat : ℕ) (amounts places : List ℕ) (i carry : ℕ) → IsSmoothing sat amounts places i carry → length places ≡ length amounts → i < length places
    → carry + get_or places i 0 ≤ sum amounts
smoothing-fits sat amounts places i carry h same lt = omega (arith, h.rest i (omega arith), h.carried, within amounts i (omega arith))

pub smoothing-more : (sat : ℕ) (amounts places : List ℕ) (i carry amount : ℕ)
    → IsSmoothing sat amounts places i carry → length places ≡ length amounts → i < length places → amount ≡ min (carry + get_or places i 0) sat
    → IsSmoothing sat amounts (set places i amount) (i + 1) (carry + get_or places i 0 - amount)
smoothing-more sat amounts places i carry amount h same lt e =
    let one = carried sat amounts i carry (get_or places i 0) (omega arith) (h.rest i (omega arith)) h.carried in
    record {
      done = below_more _ _
          (λ k below. let ne : k ≢ i = omega arith in rw get_or-set_other (h.done k below))
          (rw get_or-set_same (omega (arith, one.0)));
      rest = λ k above. let ne : k ≢ i = omega arith in rw get_or-set_other (h.rest k (omega arith));
      carried = omega (arith, one.0, one.1);
    }

pub smoothing-all : (sat : ℕ) (amounts places : List ℕ) (i carry : ℕ) → IsSmoothing sat amounts places i carry → length places ≡ length amounts → length places ≤ i
    → places ≡ smoothed sat amounts
unfolding smoothed
smoothing-all sat amounts places i carry h same all =
    fill_by_all (λ k. left_by sat amounts (k + 1) - left_by sat amounts k) places (length amounts) 0 same (λ k lt. h.done k (omega arith))
