-- How long the reds of a phase are in a timeline, and under a fixed plan.
use Rattle.std.specs.Prelude.{◌≡◌, ℕ, ◌+◌, ◌-◌, ◌<◌, ◌≤◌, ◌==◌, List, Option, Some, find, length}
use Rattle.std.specs.Option.{option_map}
use Rattle.control_flow.specs.Greens.{row_at}
use Rattle.control_flow.specs.declared.greens.Green.{Green}
use Rattle.fixed_plans.specs.Lines.{cycle_length, rows_of}
use Rattle.fixed_plans.specs.declared.rows.FixedRow.{FixedRow}
use Rattle.net_parts.specs.Numbers.{Net}
use Rattle.net_parts.specs.Outline.{plan_at}
use Rattle.phase_plan.specs.declared.Phase.{Phase}

-- from the end of a green of phase k to the begin of its next one, by the rows of a cycle: the cycle less that green; none without a row
abbrev pub cycle_red : List Phase → List FixedRow → ℕ → Option ℕ
cycle_red plan cycle k = option_map (λ row. cycle_length plan cycle - row.green) (find (λ row. row.phase == k) cycle)

-- from the end of a green of phase k of a node to the begin of its next one, under a fixed plan of the network; none without a row
abbrev pub fixed_red : Net → List FixedRow → ℕ → ℕ → Option ℕ
fixed_red net rows node k = cycle_red (plan_at net node) (rows_of rows node) k

-- a green of phase k begins with this second
pub record BeginsAt (rows : List Green) (k second : ℕ) : Type 0 where
  pub index : ℕ
  pub below : index < length rows
  pub phase : (row_at rows index).phase ≡ k
  pub from : (row_at rows index).from ≡ second

-- Each red of phase k, after its first green, is `red` seconds long: `red` seconds after the end of a green of it the next one begins,
-- where that is `end` at the latest, and none begins before.
pub record HasReds (rows : List Green) (k red end : ℕ) : Type 0 where
  pub next : (i : ℕ) → i < length rows → (row_at rows i).phase ≡ k → (row_at rows i).to + red ≤ end
      → BeginsAt rows k ((row_at rows i).to + red)
  pub none :
      (i j : ℕ) → i < length rows → j < length rows → (row_at rows i).phase ≡ k → (row_at rows j).phase ≡ k
      → (row_at rows i).from < (row_at rows j).from → (row_at rows i).to + red ≤ (row_at rows j).from

-- in the timelines of the nodes each red of phase k of a node is `reds node k` seconds long up to a second, where the phase has such a length
abbrev pub AreReds : Net → (ℕ → ℕ → Option ℕ) → (ℕ → List Green) → ℕ → Type 0
AreReds net reds lines end =
    (node k red : ℕ) → node < length net.node_names → reds node k ≡ Some red → HasReds (lines node) k red end
