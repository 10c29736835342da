-- Within how many seconds queues lose something under a fixed plan.
use Rattle.std.specs.Prelude.{ℕ, ◌+◌, ◌==◌, nat_lt, if◌then◌else◌, List, Option, None, Some, Result, Ok, Err, find}
use Rattle.fixed_plans.specs.Lines.{cycle_length, rows_of}
use Rattle.fixed_plans.specs.declared.rows.FixedRow.{FixedRow}
use Rattle.net_parts.specs.Numbers.{Net}
use Rattle.net_parts.specs.Outline.{plan_at}
use Rattle.phase_plan.specs.Phases.{phase_at}
use Rattle.phase_plan.specs.declared.Phase.{Phase}
use Rattle.waits.specs.declared.bounds.NoBound.{NoBound}
use Rattle.waits.specs.declared.bounds.NoBound.TheVariants.{Marked, ShortGreen}

-- within how many seconds each queue of a phase of this start-up, of a link without a walk, loses something, in a cycle of this length with
-- such a green of it: the cycle, the start-up, and the second in which it leaves; no such bound is there where the green is no longer than
-- the start-up
abbrev pub green_bound : ℕ → ℕ → ℕ → Result ℕ NoBound
green_bound loss length green = if nat_lt loss green then Ok (length + loss + 1) else Err ShortGreen

-- within how many seconds each queue of the phase of a row, of a link without a walk, loses something in a cycle of this length; there
-- is no such bound without a row
abbrev pub row_bound : List Phase → ℕ → Option FixedRow → Result ℕ NoBound
row_bound plan length None = Err Marked
row_bound plan length (Some row) = green_bound (phase_at plan row.phase).loss length row.green

-- within how many seconds each queue of phase k of a node, of a link without a walk, loses something under a fixed plan, by the rows of its
-- cycle
abbrev pub cycle_bound : List Phase → List FixedRow → ℕ → Result ℕ NoBound
cycle_bound plan cycle k = row_bound plan (cycle_length plan cycle) (find (λ row. row.phase == k) cycle)

-- within how many seconds each queue of phase k of a node of a network, of a link without a walk, loses something under a fixed plan
abbrev pub fixed_bounds : Net → List FixedRow → ℕ → ℕ → Result ℕ NoBound
fixed_bounds net rows node k = cycle_bound (plan_at net node) (rows_of rows node) k
