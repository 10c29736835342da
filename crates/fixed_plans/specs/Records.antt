-- The header, and the row that a record tells.
use Rattle.std.specs.Prelude.{codes, ℕ, List, [], ◌∷◌, Option, Some, None}
use Rattle.foundation.specs.Options.{◌>>=◌}
use Rattle.net_parts.specs.Numbers.{Net, number_of}
use Rattle.record_text.specs.Decimals.{number_of_digits}
use Rattle.fixed_plans.specs.declared.rows.FixedRow.{FixedRow}

-- the header
abbrev pub header : List (List ℕ)
header = codes "node" ∷ codes "phase" ∷ codes "green" ∷ codes "offset" ∷ []

-- what a record tells: the name of a node, a phase, the length of its green, and an offset
pub record FixedRecord : Type 0 where
  pub name : List ℕ
  pub phase : ℕ
  pub green : ℕ
  pub offset : ℕ

-- what four fields tell, where the last three are digits
unfoldable pub parse_fields : List ℕ → List ℕ → List ℕ → List ℕ → Option FixedRecord
parse_fields name phase green offset = do
  k ← number_of_digits phase
  g ← number_of_digits green
  o ← number_of_digits offset
  Some (record { name = name; phase = k; green = g; offset = o })

-- a record of four fields
abbrev pub parse : List (List ℕ) → Option FixedRecord
parse (name ∷ phase ∷ green ∷ offset ∷ []) = parse_fields name phase green offset
parse _ = None

-- the row of a record, where its node is one of the network
unfoldable pub parse_in : Net → List (List ℕ) → Option FixedRow
parse_in net fields = do
  t ← parse fields
  node ← number_of net.node_names t.name
  Some (record { node = node; phase = t.phase; green = t.green; offset = t.offset })
