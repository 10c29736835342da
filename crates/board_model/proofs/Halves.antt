-- A row found by halves.
use Rattle.std.proofs.Common.{◌≡◌, ◌≢◌, ℕ, zero, suc, ◌<◌, ◌≤◌, List, [], ◌∷◌, length, get_or, refl, sym, inl, inr, arith, eq-eqb, ne_eqb}
use Rattle.std.specs.List.Sorted.{IsStrictlyIncreasing, IsNonDecreasingBy, IsPartitionPoint}
use Rattle.std.proofs.lemmas.Bool.{cases_lt}
use Rattle.board_model.specs.declared.forecasts.Row.{Row}
use Rattle.board_model.specs.Forecasts.{seconds, amount_at}
use Rattle.board_model.proofs.LastOf.{rising-apart}

-- the seconds of a forecast's rows do not fall
pub seconds-rise : (rows : List Row) → IsStrictlyIncreasing (seconds rows) → IsNonDecreasingBy (λ r. r.second) rows
seconds-rise rows rising i j d le inside = elim (cases_lt i j) [
  | inl before ↦ omega (arith, rising-apart (λ (r : Row). r.second) rows rising i j d before inside)
  | inr same ↦ let here : i ≡ j = omega arith in rw here (omega arith)
]

-- the first row that has the second is the one that is found
amount-found : (rows : List Row) (second place : ℕ) (d : Row) → place < length rows → (get_or rows place d).second ≡ second → ((k : ℕ) → k < place → (get_or rows k d).second ≢ second) → amount_at rows second ≡ (get_or rows place d).amount
amount-found [] second place d inside is before = absurd (omega arith)
amount-found (r ∷ rs) second zero d inside is before = rw (eq-eqb r.second second is) refl
amount-found (r ∷ rs) second (suc place) d inside is before =
    rw (ne_eqb r.second second (before 0 (omega arith))) (amount-found rs second place d (omega arith) is (λ k h. before (suc k) (omega arith)))

-- where no row has the second, nothing comes
amount-none : (rows : List Row) (second : ℕ) (d : Row) → ((k : ℕ) → k < length rows → (get_or rows k d).second ≢ second) → amount_at rows second ≡ 0
amount-none [] second d none = refl
amount-none (r ∷ rs) second d none = rw (ne_eqb r.second second (none 0 (omega arith))) (amount-none rs second d (λ k h. none (suc k) (omega arith)))

module _ (rows : List Row) (second place : ℕ) (d : Row) (rising : IsStrictlyIncreasing (seconds rows)) (point : IsPartitionPoint (λ row. row.second < second) (λ row. second ≤ row.second) rows place) where
  -- the row at the place has the second
  pub halves-found : place < length rows → (get_or rows place d).second ≡ second → (get_or rows place d).amount ≡ amount_at rows second
  halves-found inside is = sym (amount-found rows second place d inside is (λ k h e. omega (arith, point.0 k d (omega arith) h)))

  -- it has another one, or there is no such place
  pub halves-none : place ≤ length rows → (place < length rows → (get_or rows place d).second ≢ second) → 0 ≡ amount_at rows second
  halves-none within other = sym (amount-none rows second d (λ k h e. elim (cases_lt k place) [
    | inl before ↦ omega (arith, point.0 k d (omega arith) before)
    | inr from ↦ elim (cases_lt place k) [
      | inl past ↦ omega (arith, point.1 place d (omega arith) (omega arith), rising-apart (λ (r : Row). r.second) rows rising place k d past h)
      | inr same ↦ let here : k ≡ place = omega arith in other (omega arith) (rw here at e)
    ]
  ]))
