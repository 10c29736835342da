-- Which greens may follow one another, whatever made them, and what a signal shows at a second.
use Rattle.std.specs.Prelude.{◌≡◌, ◌≢◌, ℕ, ◌+◌, ◌<◌, ◌≤◌, List, length, slice_index_or, All, find, Bool, IsTrue, ◌==◌, ◌&&◌, nat_le, nat_lt, true, if◌then◌else◌, Option, [], ◌∷◌, ◌++◌}
use Rattle.std.specs.List.{list_any}
use Rattle.std.specs.Option.{option_map}
use Rattle.phase_plan.specs.Phases.{IsMarkedAt, between, phase_at}
use Rattle.phase_plan.specs.declared.Phase.{Phase}
use Rattle.switch_rules.specs.declared.Head.{Head}
use Rattle.control_flow.specs.declared.greens.Green.{Green}
use Rattle.control_flow.specs.declared.greens.Colour.{Colour}
use Rattle.control_flow.specs.declared.greens.Colour.TheVariants as colours
use Rattle.control_flow.specs.Signs.{on_of, sign_at}

-- what stands where a timeline has no row
abbrev pub no_green : Green
no_green = record { phase = 0; from = 0; to = 0 }

-- the row at this index, from 0
abbrev pub row_at : List Green → ℕ → Green
row_at rows index = slice_index_or rows index no_green

-- the second after the last row
abbrev pub end_of : List Green → ℕ
end_of [] = 0
end_of (row ∷ []) = row.to
end_of (row ∷ next ∷ rows) = end_of (next ∷ rows)

-- each row ends after its begin, and begins no earlier than the row before it ends
pub record IsInOrder (rows : List Green) : Type 0 where
  pub long : All (λ row. row.from < row.to) rows
  pub order : (k : ℕ) → k + 1 < length rows → (row_at rows k).to ≤ (row_at rows (k + 1)).from

-- a green of a phase of the plan that lasts at least its least and at most its greatest time
pub record IsGreen (plan : List Phase) (row : Green) : Type 0 where
  pub phase : row.phase < length plan
  pub least : row.from + (phase_at plan row.phase).least ≤ row.to
  pub greatest : row.to ≤ row.from + (phase_at plan row.phase).greatest

-- the row after it is of another phase, all phases between, going up the ring, are marked, and it begins after yellow and
-- all-red at the earliest
pub record Follows (plan : List Phase) (row next : Green) : Type 0 where
  pub passed : All (IsMarkedAt plan) (between plan row.phase next.phase)
  pub other : next.phase ≢ row.phase
  pub begins : row.to + (phase_at plan row.phase).yellow + (phase_at plan row.phase).clear ≤ next.from

-- a lawful timeline: each row is a green of the plan, and each but the first follows the row before it
pub record IsLawful (plan : List Phase) (rows : List Green) : Type 0 where
  pub greens : All (IsGreen plan) rows
  pub order : (k : ℕ) → k + 1 < length rows → Follows plan (row_at rows k) (row_at rows (k + 1))

-- the first row of a timeline is the green of this head, and does not end before its time is spent
pub record GoesOn (head : Head) (rows : List Green) : Type 0 where
  pub some : 0 < length rows
  pub phase : (row_at rows 0).phase ≡ head.phase
  pub begin : (row_at rows 0).from ≡ head.since
  pub spent : head.at ≤ (row_at rows 0).to

-- each row begins at this second or before it
abbrev pub BeginBy : ℕ → List Green → Type 0
BeginBy second rows = All (λ row. row.from ≤ second) rows

-- whether a row covers a second
abbrev pub covers : Green → ℕ → Bool
covers row second = nat_le row.from second && nat_lt second row.to

-- whether the yellow after a row, of this many seconds, covers a second
abbrev pub covers_yellow : Green → ℕ → ℕ → Bool
covers_yellow row yellow second = nat_le row.to second && nat_lt second (row.to + yellow)

-- between the end of a row and the begin of each later one lie at least the yellow and all-red of its phase, so that at most
-- one row covers a second
pub record AreApart (plan : List Phase) (rows : List Green) : Type 0 where
  pub apart : (i j : ℕ) → i < j → j < length rows
      → (row_at rows i).to + (phase_at plan (row_at rows i).phase).yellow + (phase_at plan (row_at rows i).phase).clear
      ≤ (row_at rows j).from
  pub one : (i j second : ℕ) → i < length rows → j < length rows → IsTrue (covers (row_at rows i) second)
      → IsTrue (covers (row_at rows j) second) → i ≡ j

-- the first row that covers a second
abbrev pub green_at : List Green → ℕ → Option Green
green_at rows second = find (λ row. covers row second) rows

-- which phase is green at a second, and since when
abbrev pub standing : List Green → ℕ → Option (ℕ × ℕ)
standing rows second = on_of (sign_at rows second)

-- whether a row of the phase covers a second
abbrev pub is_green : List Green → ℕ → ℕ → Bool
is_green rows k second = list_any (λ row. (row.phase == k) && covers row second) rows

-- whether the yellow after a row of the phase covers a second
abbrev pub is_yellow : List Phase → List Green → ℕ → ℕ → Bool
is_yellow plan rows k second =
    list_any (λ row. (row.phase == k) && covers_yellow row (phase_at plan k).yellow second) rows

-- what phase k shows at a second
abbrev pub colour_at : List Phase → List Green → ℕ → ℕ → Colour
colour_at plan rows k second =
    if is_green rows k second then colours.Green else if is_yellow plan rows k second then colours.Yellow
    else colours.Red

-- the first row that ends after a second
abbrev pub row_after : List Green → ℕ → Option Green
row_after rows now = find (λ row. nat_lt now row.to) rows

-- the signal's state at a second, by the row that is green then, or else will be next
abbrev pub head_in : List Phase → ℕ → Green → Head
head_in plan now row =
    if nat_le row.from now
    then record {
      phase = row.phase;
      since = row.from;
      at = now;
      fresh = nat_lt now (row.from + (phase_at plan row.phase).loss);
    }
    else record { phase = row.phase; since = row.from; at = row.from; fresh = true }

-- the signal's state at a second, where some row ends after it
abbrev pub head_at : List Phase → List Green → ℕ → Option Head
head_at plan rows now = option_map (head_in plan now) (row_after rows now)

-- some row is of this phase and begins at this second
pub record HasRow (rows : List Green) (phase from : ℕ) : Type 0 where
  pub index : ℕ
  pub below : index < length rows
  pub same_phase : (row_at rows index).phase ≡ phase
  pub same_begin : (row_at rows index).from ≡ from

-- another timeline can take the place of this one's rows from one of them on: it has no row, or some row has the phase and the
-- begin of its first
abbrev pub Joins : List Green → List Green → Type 0
Joins old [] = Unit {0}
Joins old (first ∷ rest) = HasRow old first.phase first.from

-- the rows of a timeline before the first that does not begin before this second
abbrev pub rows_before : List Green → ℕ → List Green
rows_before [] second = []
rows_before (row ∷ rows) second = if nat_lt row.from second then row ∷ rows_before rows second else []

-- a timeline continued by another one: the rows of `old` up to the first that does not begin before the first row of the other one,
-- and then the rows of that; where it has none, `old` as it is
abbrev pub spliced : List Green → List Green → List Green
spliced old [] = old
spliced old (row ∷ rows) = rows_before old row.from ++ row ∷ rows

-- what a timeline keeps that is spliced from the second `now` on: it is lawful; in every second before `now` it shows the same sign,
-- and every phase the same colour; it ends as the new rows do; and its rows begin by a second by which those of both begin
pub record IsContinued (plan : List Phase) (old : List Green) (now : ℕ) (next rows : List Green) : Type 0 where
  pub lawful : IsLawful plan rows
  pub past : (second : ℕ) → second < now → sign_at rows second ≡ sign_at old second
  pub colours : (k second : ℕ) → second < now → colour_at plan rows k second ≡ colour_at plan old k second
  pub end : end_of rows ≡ end_of next
  pub begins_by : (n : ℕ) → BeginBy n old → BeginBy n next → BeginBy n rows
