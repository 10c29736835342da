-- The rows of a forecast, one after another.
use Rattle.std.proofs.Common.{◌≡◌, ℕ, zero, suc, ◌+◌, ◌-◌, ◌<◌, List, ◌∷◌, [], ◌++◌, length, take, get_or, ap, sym, ◌∙◌, subst, arith}
use Rattle.std.specs.Prelude.{Option, Some, IfSome, slice_get}
use Rattle.std.specs.List.Sorted.{IsStrictlyIncreasing}
use Rattle.std.proofs.Math.Seq.{take-suc}
use Rattle.std.proofs.lemmas.List.{get_or-map, get_or-take, length-map, length-take-le}
use Rattle.std.proofs.lemmas.Option.{slice_get-get_or}
use Rattle.board_model.specs.declared.forecasts.Row.{Row}
use Rattle.board_model.specs.Forecasts.{IsAboveLast, seconds}

abbrev second : Row → ℕ
second row = row.second

-- the next row is above those before it
pub next-above : (rows : List Row) (k : ℕ) (row d : Row) → IsStrictlyIncreasing (seconds rows) → k < length rows → row ≡ get_or rows k d → IsAboveLast (seconds (take k rows)) row.second
next-above rows zero row d rising inside is = tt
next-above rows (suc j) row d rising inside is =
    let long : length (seconds rows) ≡ length rows = length-map rows second in
    let front : List ℕ = seconds (take (suc j) rows) in
    let count : length front ≡ suc j = length-map (take (suc j) rows) second ∙ length-take-le (suc j) rows (omega (arith, inside)) in
    let place : length front - 1 ≡ j = omega (arith, count) in
    let last : get_or front j 0 ≡ get_or (seconds rows) j 0 = get_or-map second (take (suc j) rows) j d 0 (omega (arith, count, length-map (take (suc j) rows) second)) ∙ ap second (get_or-take (suc j) rows j d (omega arith)) ∙ sym (get_or-map second rows j d 0 (omega (arith, inside))) in
    let next : get_or (seconds rows) (j + 1) 0 ≡ row.second = get_or-map second rows (j + 1) d 0 (omega (arith, inside)) ∙ ap (λ (i : ℕ). second (get_or rows i d)) (plus j) ∙ ap second (sym is) in
    let found : slice_get front (length front - 1) ≡ Some (get_or (seconds rows) j 0) = ap (slice_get front) place ∙ slice_get-get_or front j 0 (omega (arith, count)) ∙ ap (λ (n : ℕ). Some n) last in
    subst (λ (o : Option ℕ). IfSome o (λ n. n < row.second)) (sym found) (subst (λ (n : ℕ). get_or (seconds rows) j 0 < n) next (rising j (omega (arith, inside, long))))
  where
    plus : (n : ℕ) → n + 1 ≡ suc n
    plus n = omega arith

-- and makes the front longer
pub one-more : (rows : List Row) (k : ℕ) (row d : Row) → k < length rows → row ≡ get_or rows k d → take k rows ++ row ∷ [] ≡ take (k + 1) rows
one-more rows k row d inside is = ap (λ (r : Row). take k rows ++ r ∷ []) is ∙ sym (take-suc rows k d inside) ∙ ap (λ (n : ℕ). take n rows) (plus k)
  where
    plus : (n : ℕ) → suc n ≡ n + 1
    plus n = omega arith
