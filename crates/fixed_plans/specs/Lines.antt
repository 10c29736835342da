-- The timelines of a fixed plan.
use Rattle.std.specs.Prelude.{ℕ, ◌+◌, ◌-◌, ◌%◌, ◌==◌, if◌then◌else◌, List, [], ◌∷◌, Option, None, Some, filter, filter_map, sum_by}
use Rattle.std.specs.List.{range_with_len}
use Rattle.std.specs.Option.{option_map}
use Rattle.phase_plan.specs.Phases.{phase_at}
use Rattle.phase_plan.specs.declared.Phase.{Phase}
use Rattle.control_flow.specs.declared.greens.Green.{Green}
use Rattle.net_parts.specs.Numbers.{Net}
use Rattle.net_parts.specs.Outline.{plan_at}
use Rattle.net_simulator.specs.Sums.{end_of_run}
use Rattle.fixed_plans.specs.declared.rows.FixedRow.{FixedRow}

-- the rows of a node
abbrev pub rows_of : List FixedRow → ℕ → List FixedRow
rows_of rows node = filter (λ r. r.node == node) rows

-- from the begin of the green of a row to that of the next one: its green, its yellow and its clear time
abbrev pub span : List Phase → FixedRow → ℕ
span plan r = r.green + (phase_at plan r.phase).yellow + (phase_at plan r.phase).clear

-- how long a cycle of these rows is
abbrev pub cycle_length : List Phase → List FixedRow → ℕ
cycle_length plan rows = sum_by (span plan) rows

-- a second at which a cycle begins
abbrev pub offset_of : List FixedRow → ℕ
offset_of [] = 0
offset_of (r ∷ rs) = r.offset

-- which second of its cycle second x is, where cycles of this length begin at the offset, and whole lengths before and after it
abbrev pub cycle_second : ℕ → ℕ → ℕ → ℕ
cycle_second length offset x = (x + (length - offset % length)) % length

-- the row whose green begins at second s of the cycle, where that of the first begins at second `at` of it
abbrev pub beginning : List Phase → ℕ → List FixedRow → ℕ → Option FixedRow
beginning plan at [] s = None
beginning plan at (r ∷ rs) s = if s == at then Some r else beginning plan (at + span plan r) rs s

-- the green of a row from second x on
abbrev pub green_of : ℕ → FixedRow → Green
green_of x r = record { phase = r.phase; from = x; to = x + r.green }

-- the green that begins at second x
abbrev pub green_from : List Phase → List FixedRow → ℕ → Option Green
green_from plan rows x =
    option_map (green_of x) (beginning plan 0 rows (cycle_second (cycle_length plan rows) (offset_of rows) x))

-- the timeline of the rows of a node up to one cycle after a second: all greens that begin before then, of the cycles from the
-- offset on, and of those that begin whole cycles before it
abbrev pub cycle_line : List Phase → List FixedRow → ℕ → List Green
cycle_line plan rows end = filter_map (green_from plan rows) (range_with_len 0 (end + cycle_length plan rows))

-- the timeline of a node under a fixed plan
abbrev pub fixed_line : Net → List FixedRow → ℕ → List Green
fixed_line net rows node = cycle_line (plan_at net node) (rows_of rows node) (end_of_run net)
