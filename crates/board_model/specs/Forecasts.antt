-- A forecast, as contracts see it: the list of its rows.
use Rattle.std.specs.Prelude.{ℕ, Bool, ◌-◌, ◌<◌, ◌≤◌, ◌==◌, List, length, map, find, All, IfSome, slice_get, unwrap_or}
use Rattle.std.specs.List.Sorted.{IsStrictlyIncreasing}
use Rattle.std.specs.Option.{option_map}
use Rattle.std.specs.Bool.{nat_eq}
use Rattle.std.specs.Ordering.{on, eq_of_both}
use Rattle.std.specs.Cmp.Lexicographic.{pointwise}
use Rattle.board_model.specs.declared.forecasts.Row.{Row}

-- a forecast has no more rows
abbrev pub most_rows : ℕ
most_rows = 180

-- the last second that a row may have
abbrev pub last_second : ℕ
last_second = 100000

-- what comes in one second at the most, in thousandths of a vehicle
abbrev pub most_in_second : ℕ
most_in_second = 80000

-- n is above the last of the numbers, where there is one
abbrev pub IsAboveLast : List ℕ → ℕ → Type 0
IsAboveLast numbers n = IfSome (slice_get numbers (length numbers - 1)) (λ last. last < n)

-- the seconds of the rows
abbrev pub seconds : List Row → List ℕ
seconds rows = map (λ row. row.second) rows

-- the bounds of a row: its second, and its amount, which is not 0
pub record IsRow (row : Row) : Type 0 where
  pub second : row.second ≤ last_second
  pub some : 1 ≤ row.amount
  pub most : row.amount ≤ most_in_second

-- at most 180 rows with rising seconds, each within bounds
pub record IsForecast (rows : List Row) : Type 0 where
  pub few : length rows ≤ most_rows
  pub rising : IsStrictlyIncreasing (seconds rows)
  pub each : All IsRow rows

-- the amount of the row with this second, 0 where none has it
abbrev pub amount_at : List Row → ℕ → ℕ
amount_at rows second = unwrap_or (option_map (λ row. row.amount) (find (λ row. row.second == second) rows)) 0

-- row by row the same second and the same amount
abbrev pub have_same_rows : List Row → List Row → Bool
have_same_rows = pointwise (eq_of_both (on (λ row. row.second) nat_eq) (on (λ row. row.amount) nat_eq))
