-- The header, and the row that a record tells.
use Rattle.std.specs.Prelude.{codes, ℕ, List, [], ◌∷◌, Option, Some, None}
use Rattle.foundation.specs.Options.{◌>>=◌}
use Rattle.net_parts.specs.Numbers.{Net, number_of}
use Rattle.record_text.specs.Decimals.{number_of_digits}
use Rattle.arrivals.specs.declared.rows.ArrivalRow.{ArrivalRow}

-- the header
abbrev pub header : List (List ℕ)
header = codes "second" ∷ codes "link" ∷ codes "amount" ∷ []

-- what a record tells: a second, the name of a link, and an amount
pub record ArrivalRecord : Type 0 where
  pub second : ℕ
  pub name : List ℕ
  pub amount : ℕ

-- what three fields tell, where the first and the last are digits
unfoldable pub parse_fields : List ℕ → List ℕ → List ℕ → Option ArrivalRecord
parse_fields second name amount = do
  x ← number_of_digits second
  a ← number_of_digits amount
  Some (record { second = x; name = name; amount = a })

-- a record of three fields
abbrev pub parse : List (List ℕ) → Option ArrivalRecord
parse (second ∷ name ∷ amount ∷ []) = parse_fields second name amount
parse _ = None

-- the row of a record, where its link is one of the network
unfoldable pub parse_in : Net → List (List ℕ) → Option ArrivalRow
parse_in net fields = do
  t ← parse fields
  link ← number_of net.link_names t.name
  Some (record { second = t.second; link = link; amount = t.amount })
