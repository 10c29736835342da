-- The rows of a line that a round needs.
use Rattle.std.specs.Prelude.{ℕ, List, [], ◌∷◌, if◌then◌else◌, nat_le}
use Rattle.control_flow.specs.declared.greens.Green.{Green}

-- the rows of a line from the last that begins by a second on; all rows where none does
abbrev pub rows_from : ℕ → List Green → List Green
rows_from second [] = []
rows_from second (row ∷ []) = row ∷ []
rows_from second (row ∷ next ∷ rows) =
    if nat_le next.from second then rows_from second (next ∷ rows) else row ∷ next ∷ rows
