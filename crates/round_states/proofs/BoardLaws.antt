-- Rows whose seconds rise, and forecasts.
use Rattle.std.proofs.Common.{◌≡◌, ℕ, zero, suc, ◌+◌, ◌-◌, ◌<◌, ◌≤◌, List, [], ◌∷◌, ◌++◌, length, get_or, take, sym, subst, arith}
use Rattle.std.specs.List.Sorted.{IsStrictlyIncreasing}
use Rattle.std.proofs.lemmas.List.{get_or-map, length-map, take_more}
use Rattle.board_model.specs.declared.forecasts.Row.{Row}
use Rattle.board_model.specs.Forecasts.{IsAboveLast, seconds}
use Rattle.board_model.proofs.ForCallers.{above-row}

-- what stands where there is no row
abbrev pub no_row : Row
no_row = record { second = 0; amount = 0 }

map-count : (rows : List Row) → length (seconds rows) ≡ length rows
map-count rows = length-map rows (λ (row : Row). row.second)

second-at : (rows : List Row) (k : ℕ) → k < length rows → get_or (seconds rows) k 0 ≡ (get_or rows k no_row).second
second-at rows k h = get_or-map (λ (row : Row). row.second) rows k no_row 0 h

-- each row up to here is later than the one before it
abbrev pub RiseTo : List Row → ℕ → Type 0
RiseTo rows n = (k : ℕ) → k + 1 < n → (get_or rows k no_row).second < (get_or rows (k + 1) no_row).second

pub rise-all : (rows : List Row) (n : ℕ) → length rows ≤ n → RiseTo rows n → IsStrictlyIncreasing (seconds rows)
rise-all rows n all rise k h =
    let below : k + 1 < length rows = omega (arith, h, map-count rows) in
    omega (arith, rise k (omega (arith, below, all)), second-at rows k (omega (arith, below)), second-at rows (k + 1) below)

pub rise-at : (rows : List Row) → IsStrictlyIncreasing (seconds rows) → (k : ℕ) → k + 1 < length rows → (get_or rows k no_row).second < (get_or rows (k + 1) no_row).second
rise-at rows rising k below = omega (arith, rising k (omega (arith, below, map-count rows)), second-at rows k (omega (arith, below)), second-at rows (k + 1) below)

-- rows of which one is no later than the one before it do not rise
pub rise-fails : (rows : List Row) (index : ℕ) → 1 ≤ index → index < length rows → (get_or rows index no_row).second ≤ (get_or rows (index - 1) no_row).second → IsStrictlyIncreasing (seconds rows) → ⊥
rise-fails rows index some below early rising =
    let at : index - 1 + 1 ≡ index = omega (arith, some) in
    let less : (get_or rows (index - 1) no_row).second < (get_or rows index no_row).second = subst (λ k. (get_or rows (index - 1) no_row).second < (get_or rows k no_row).second) at (rise-at rows rising (index - 1) (omega (arith, some, below))) in
    omega (arith, less, early)

-- the next row of a forecast is later than those before it
pub above-next : (rows : List Row) → IsStrictlyIncreasing (seconds rows) → (i : ℕ) → i < length rows → IsAboveLast (seconds (take i rows)) (get_or rows i no_row).second
above-next rows rising zero h = tt
above-next rows rising (suc i) h =
    let more : take (i + 1) rows ≡ take i rows ++ get_or rows i no_row ∷ [] = take_more rows i no_row (omega (arith, h)) in
    let next : suc i ≡ i + 1 = omega arith in
    subst (λ j. IsAboveLast (seconds (take j rows)) (get_or rows j no_row).second) (sym next)
    (subst (λ l. IsAboveLast (seconds l) (get_or rows (i + 1) no_row).second) (sym more) (above-row (take i rows) (get_or rows i no_row) (get_or rows (i + 1) no_row).second (rise-at rows rising i (omega (arith, h)))))
