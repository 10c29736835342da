-- The rows of one node. No public clause names these definitions.
use Rattle.std.specs.Prelude.{ℕ, ◌+◌, ◌≤◌, List, [], ◌∷◌, length}
use Rattle.phase_plan.specs.declared.Phase.{Phase}
use Rattle.fixed_plans.specs.declared.rows.FixedRow.{FixedRow}
use Rattle.fixed_plans.specs.Rows.{AreMarked, HasGreen, IsFirstFrom}

-- these rows are of the phases from this number on: those without a row are marked
abbrev pub IsCycleFrom : List Phase → ℕ → List FixedRow → Type 0
IsCycleFrom plan low [] = AreMarked plan low (length plan)
IsCycleFrom plan low (r ∷ rs) = IsFirstFrom plan low r.phase × HasGreen plan r × IsCycleFrom plan (r.phase + 1) rs

-- the rows of a cycle: at least two, of the phases from 0 on
pub record IsCycle (plan : List Phase) (rows : List FixedRow) : Type 0 where
  pub some : 2 ≤ length rows
  pub from : IsCycleFrom plan 0 rows
