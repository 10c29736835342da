-- The header, and the row that a record tells.
use Rattle.std.specs.Prelude.{codes, ℕ, List, [], ◌∷◌, Option, Some, None}
use Rattle.foundation.specs.Options.{◌>>=◌}
use Rattle.net_parts.specs.Numbers.{Net, number_of}
use Rattle.record_text.specs.Decimals.{number_of_digits}
use Rattle.spillback_world.specs.declared.store_reader.StoreRow.{StoreRow}

-- the header
abbrev pub header : List (List ℕ)
header = codes "link" ∷ codes "storage" ∷ []

-- what a record tells: the name of a link, and a storage
pub record StoreRecord : Type 0 where
  pub name : List ℕ
  pub storage : ℕ

-- what two fields tell, where the last is digits
unfoldable pub parse_fields : List ℕ → List ℕ → Option StoreRecord
parse_fields name storage = do
  s ← number_of_digits storage
  Some (record { name = name; storage = s })

-- a record of two fields
abbrev pub parse : List (List ℕ) → Option StoreRecord
parse (name ∷ storage ∷ []) = parse_fields name storage
parse _ = None

-- the row of a record, where its link is one of the network
unfoldable pub parse_in : Net → List (List ℕ) → Option StoreRow
parse_in net fields = do
  t ← parse fields
  link ← number_of net.link_names t.name
  Some (record { link = link; storage = t.storage })
