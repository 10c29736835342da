-- Which rows of a timeline a report tells.
use Rattle.std.specs.Prelude.{ℕ, ◌<◌, ◌^◌, nat_lt, Bool, if◌then◌else◌, List, [], ◌∷◌, slice_index_or}
use Rattle.control_flow.specs.Greens.{row_at}
use Rattle.control_flow.specs.declared.greens.Green.{Green}
use Rattle.net_parts.specs.Numbers.{Net}
use Rattle.net_simulator.specs.declared.totals.LinkTotals.{LinkTotals}
use Rattle.road_net.specs.Through.{is_through}

-- the second that has to lie before the end of the run for a row to be told, after one that ends at `last`: of a node that is through
-- that end, and of any other node the begin of the row
abbrev pub told_by : Bool → ℕ → Green → ℕ
told_by through last row = if through then last else row.from

-- the rows that are told after one that ends at `last`, of a run that ends at `end`
abbrev pub told_after : Bool → ℕ → ℕ → List Green → List Green
told_after through end last [] = []
told_after through end last (row ∷ rows) =
    if nat_lt (told_by through last row) end then row ∷ told_after through end row.to rows else []

-- The rows of a line that are told: of a node that is through the first, where it begins before the end of the run, and each further
-- one whose row before it ends before that; of any other node those that begin before the end.
abbrev pub told_rows : Bool → ℕ → List Green → List Green
told_rows through end rows = told_after through end (row_at rows 0).from rows

-- the rows of the line of a node that are told, out of the timelines of all nodes
abbrev pub told_line : Net → List (List Green) → ℕ → ℕ → List Green
told_line net lines end node = told_rows (is_through net node) end (slice_index_or lines node [])

-- numbers of a row that a report can tell: a phase is one of 8 bits, and times are ones of 32
pub record IsToldGreen (green : Green) : Type 0 where
  pub phase : green.phase < 2 ^ 8
  pub from : green.from < 2 ^ 32
  pub to : green.to < 2 ^ 32

-- totals of a link that a report can tell: numbers of 64 bits
pub record AreToldCounts (totals : LinkTotals) : Type 0 where
  pub entered : totals.entered < 2 ^ 64
  pub left : totals.left < 2 ^ 64
  pub delay : totals.delay < 2 ^ 64
