-- How a series of amounts, one for each second, is cut into runs. Seconds are counted from the first one of the series, 0.
use Rattle.std.specs.Prelude.{◌≡◌, ℕ, ◌+◌, ◌-◌, ◌*◌, ◌<◌, ◌≤◌, ◌⊎◌, max, nat_lt, List, [], ◌∷◌, All, filter, length, slice_index, slice_index_or, take}
use Rattle.std.specs.List.{concat, range_with_len}

-- the seconds that are not empty, in order, among n seconds from this one on
unfoldable pub filled_from : List ℕ → ℕ → ℕ → List ℕ
filled_from series first n = filter (λ x. nat_lt 0 (slice_index series x)) (range_with_len first n)

-- the seconds of a series that are not empty, in order
abbrev pub filled : List ℕ → List ℕ
filled series = filled_from series 0 (length series)

-- the first second of a run, and the last one
abbrev pub first_of : List ℕ → ℕ
first_of run = slice_index run 0

abbrev pub last_of : List ℕ → ℕ
last_of run = slice_index run (length run - 1)

-- the greatest amount of these seconds; 0 where there are none
unfoldable pub peak : List ℕ → List ℕ → ℕ
peak series [] = 0
peak series (x ∷ run) = max (slice_index series x) (peak series run)

-- so little comes in this second beside the greatest amount of a run before it: less than `rate` thousandths of it
abbrev pub FallsBelow : ℕ → List ℕ → List ℕ → ℕ → Type 0
FallsBelow rate series run x = 1000 * slice_index series x < rate * peak series run

-- A run has a second at least; between neighbours in it there are at most `gap` empty seconds; it spans at most `most` seconds,
-- its first and its last one included; and each later second has at least `rate` thousandths of the greatest amount before it.
pub record IsRun (gap rate most : ℕ) (series run : List ℕ) : Type 0 where
  pub some : 1 ≤ length run
  pub near : (k : ℕ) → k + 1 < length run → slice_index run (k + 1) ≤ slice_index run k + gap + 1
  pub span : last_of run + 1 ≤ first_of run + most
  pub flows : (k : ℕ) → k + 1 < length run
      → rate * peak series (take (k + 1) run) ≤ 1000 * slice_index series (slice_index run (k + 1))

-- a second after a run could not have joined it: more than `gap` empty seconds lie before it, the span would pass `most`, or too
-- little comes in it
abbrev pub CannotJoin : ℕ → ℕ → ℕ → List ℕ → List ℕ → ℕ → Type 0
CannotJoin gap rate most series run x =
    (last_of run + gap + 1 < x) ⊎ (first_of run + most < x + 1) ⊎ FallsBelow rate series run x

-- the run with this number
abbrev pub run_at : List (List ℕ) → ℕ → List ℕ
run_at runs k = slice_index_or runs k []

-- The runs divide the seconds that are not empty, in their order, and the first second of each next run could not have joined.
-- A run that begins in second x spans at most `span x` seconds.
pub record IsCutBy (gap rate : ℕ) (span : ℕ → ℕ) (series : List ℕ) (runs : List (List ℕ)) : Type 0 where
  pub all : concat runs ≡ filled series
  pub each : All (λ run. IsRun gap rate (span (first_of run)) series run) runs
  pub apart : (k : ℕ) → k + 1 < length runs
      → CannotJoin gap rate (span (first_of (run_at runs k))) series (run_at runs k) (first_of (run_at runs (k + 1)))
