-- The rows of a forecast, second by second.
use Rattle.std.proofs.Common.{◌≡◌, ℕ, zero, suc, ◌+◌, ◌-◌, ◌<◌, ◌≤◌, cond, nat_lt, List, [], ◌∷◌, ◌++◌, All, length, get_or, slice_get, filter, map, None, Some, refl, sym, ap, subst, ◌∙◌, inl, inr, arith}
use Rattle.std.specs.List.{range_with_len}
use Rattle.std.proofs.lemmas.List.{map-append, append-nil, length-map, get_or-map}
use Rattle.std.proofs.lemmas.Option.{slice_get-get_or, slice_get_past}
use Rattle.std.proofs.lemmas.List.Elements.{All-get_or, All-push, All-weaker, filter-append}
use Rattle.std.proofs.lemmas.Bool.{cases_lt, cond_below, cond_above}
use Rattle.board_model.specs.declared.forecasts.Row.{Row}
use Rattle.board_model.specs.Forecasts.{IsAboveLast, seconds}
use Rattle.clusters.proofs.ListLaws.{length-push, range-append}
use Rattle.outflow.specs.Outflow.{positive_rows}

pub positive-append : (f : ℕ → ℕ) (xs ys : List ℕ) → positive_rows f (xs ++ ys) ≡ positive_rows f xs ++ positive_rows f ys
positive-append f xs ys =
    ap (filter (λ (row : Row). nat_lt 0 row.amount)) (map-append (λ d. let r : Row = record { second = d; amount = f d } in r) xs ys)
    ∙ filter-append (λ (row : Row). nat_lt 0 row.amount) (map (λ d. let r : Row = record { second = d; amount = f d } in r) xs) (map (λ d. let r : Row = record { second = d; amount = f d } in r) ys)

pub positive-none : (f : ℕ → ℕ) (a n : ℕ) → ((d : ℕ) → a ≤ d → d < a + n → f d ≡ 0) → positive_rows f (range_with_len a n) ≡ []
positive-none f a zero h = refl
positive-none f a (suc n) h =
    let rest : List Row = positive_rows f (range_with_len (a + 1) n) in
    sym (cond_above 0 (f a) (record { second = a; amount = f a } ∷ rest) rest rest (let e : f a ≡ 0 = h a (omega arith) (omega arith) in omega (arith, e)) refl)
    ∙ positive-none f (a + 1) n (λ d lo hi. h d (omega arith) (omega arith))

pub positive-same : (f g : ℕ → ℕ) (a n : ℕ) → ((d : ℕ) → a ≤ d → d < a + n → f d ≡ g d) → positive_rows f (range_with_len a n) ≡ positive_rows g (range_with_len a n)
positive-same f g a zero h = refl
positive-same f g a (suc n) h =
    let e : f a ≡ g a = h a (omega arith) (omega arith) in
    ap (λ x. cond (nat_lt 0 x) (record { second = a; amount = x } ∷ positive_rows f (range_with_len (a + 1) n)) (positive_rows f (range_with_len (a + 1) n))) e
    ∙ ap (λ rs. cond (nat_lt 0 (g a)) (record { second = a; amount = g a } ∷ rs) rs) (positive-same f g (a + 1) n (λ d lo hi. h d (omega arith) (omega arith)))

-- The rows of the first k amounts.
pub record IsRowing (now : ℕ) (amounts : List ℕ) (forecast : List Row) (k : ℕ) : Type 0 where
  pub rows : forecast ≡ positive_rows (λ d. get_or amounts (d - now) 0) (range_with_len now k)
  pub below : All (λ row. row.second < now + k) forecast
  pub few : length forecast ≤ k

pub above-of : (rows : List Row) (n : ℕ) → All (λ row. row.second < n) rows → IsAboveLast (seconds rows) n
above-of rows n h = elim (cases_lt (length (seconds rows) - 1) (length (seconds rows))) [
  | inl below ↦
      let at : slice_get (seconds rows) (length (seconds rows) - 1) ≡ Some (get_or (seconds rows) (length (seconds rows) - 1) 0) = slice_get-get_or (seconds rows) (length (seconds rows) - 1) 0 below in
      let inside : length (seconds rows) - 1 < length rows = omega (arith, length-map rows (λ (r : Row). r.second)) in
      let d : Row = record { second = 0; amount = 0 } in
      let last : get_or (seconds rows) (length (seconds rows) - 1) 0 < n =
      omega (arith, get_or-map (λ (r : Row). r.second) rows (length (seconds rows) - 1) d 0 inside, All-get_or (λ row. row.second < n) rows (length (seconds rows) - 1) d inside h) in
      rw at last
  | inr past ↦ let none : slice_get (seconds rows) (length (seconds rows) - 1) ≡ None = slice_get_past (seconds rows) (length (seconds rows) - 1) past in rw none tt
]

abbrev no_rows : List Row
no_rows = []

one-row : (f : ℕ → ℕ) (a : ℕ) → 0 < f a → positive_rows f (range_with_len a 1) ≡ record { second = a; amount = f a } ∷ []
one-row f a h = sym (cond_below 0 (f a) (record { second = a; amount = f a } ∷ no_rows) no_rows h)

pub rowing-none : (now : ℕ) (amounts : List ℕ) → IsRowing now amounts [] 0
rowing-none now amounts = record { rows = refl; below = λ k d lt. absurd (omega arith); few = omega arith }

pub rowing-skip : (now : ℕ) (amounts : List ℕ) (forecast : List Row) (k : ℕ) → IsRowing now amounts forecast k → get_or amounts k 0 ≡ 0 → IsRowing now amounts forecast (k + 1)
rowing-skip now amounts forecast k h none =
    let f : ℕ → ℕ = λ d. get_or amounts (d - now) 0 in
    record {
      rows =
          h.rows
          ∙ sym (ap (positive_rows (λ d. get_or amounts (d - now) 0)) (range-append now k 1) ∙ positive-append (λ d. get_or amounts (d - now) 0) (range_with_len now k) (range_with_len (now + k) 1)
          ∙ ap (λ rs. positive_rows (λ d. get_or amounts (d - now) 0) (range_with_len now k) ++ rs)
          (positive-none (λ d. get_or amounts (d - now) 0) (now + k) 1 (λ d lo hi. let e : d - now ≡ k = omega arith in rw e none))
          ∙ append-nil (positive_rows (λ d. get_or amounts (d - now) 0) (range_with_len now k)));
      below = All-weaker (λ row. row.second < now + k) (λ row. row.second < now + (k + 1)) (λ row lt. omega (arith, lt)) forecast h.below;
      few = omega (arith, h.few);
    }

pub rowing-more : (now : ℕ) (amounts : List ℕ) (forecast more : List Row) (k : ℕ) → IsRowing now amounts forecast k → 0 < get_or amounts k 0
    → more ≡ forecast ++ record { second = now + k; amount = get_or amounts k 0 } ∷ [] → IsRowing now amounts more (k + 1)
rowing-more now amounts forecast more k h some pushed =
    let back : now + k - now ≡ k = omega arith in
    let value : get_or amounts (now + k - now) 0 ≡ get_or amounts k 0 = ap (λ j. get_or amounts j 0) back in
    let row : Row = record { second = now + k; amount = get_or amounts k 0 } in
    let P : List Row → Type 0 = λ rs. IsRowing now amounts rs (k + 1) in
    subst P (sym pushed)
    (record {
      rows =
          ap (λ rs. rs ++ record { second = now + k; amount = get_or amounts k 0 } ∷ []) h.rows
          ∙ sym (ap (positive_rows (λ d. get_or amounts (d - now) 0)) (range-append now k 1) ∙ positive-append (λ d. get_or amounts (d - now) 0) (range_with_len now k) (range_with_len (now + k) 1)
          ∙ ap (λ rs. positive_rows (λ d. get_or amounts (d - now) 0) (range_with_len now k) ++ rs)
          (one-row (λ d. get_or amounts (d - now) 0) (now + k) (omega (arith, value, some))
          ∙ ap (λ n. let r : Row = record { second = now + k; amount = n } in r ∷ []) value));
      below =
          All-push (λ (row : Row). row.second < now + (k + 1)) forecast (record { second = now + k; amount = get_or amounts k 0 })
          (All-weaker (λ row. row.second < now + k) (λ row. row.second < now + (k + 1)) (λ row lt. omega (arith, lt)) forecast h.below) (omega arith);
      few = omega (arith, h.few, length-push forecast (record { second = now + k; amount = get_or amounts k 0 }));
    })
