-- What a record of a report tells a sheet.
use Rattle.std.specs.Prelude.{codes, nat_lt, ℕ, ◌^◌, ◌&&◌, ◌||◌, Bool, if◌then◌else◌, List, [], ◌∷◌, Option, Some, None}
use Rattle.std.specs.Fmt.{decimal}
use Rattle.std.specs.Str.{bytes_eq}
use Rattle.std.specs.Str.Parse.{digits_value}
use Rattle.foundation.specs.Options.{◌>>=◌}
use Rattle.control_flow.specs.declared.greens.Green.{Green}
use Rattle.net_simulator.specs.declared.totals.LinkTotals.{LinkTotals}
use Rattle.net_simulator.specs.declared.totals.Totals.{Totals}

-- Nothing, where the record is passed over; a green of the node of a name; what was counted of the link of a name, or of the
-- whole network.
pub data SheetRecord : Type 0 where
  Ignored : SheetRecord
  Shows : (node : List ℕ) → (green : Green) → SheetRecord
  Counts : (link : List ℕ) → (totals : LinkTotals) → SheetRecord
  Sums : (totals : Totals) → SheetRecord

-- the number below 2 ^ bits that a field is the text of
unfoldable pub number_in : ℕ → List ℕ → Option ℕ
number_in bits field =
    if nat_lt (digits_value 10 field) (2 ^ bits) && bytes_eq field (decimal (digits_value 10 field))
    then Some (digits_value 10 field) else None

-- a green of a node's name, phase, begin and end
unfoldable pub parse_green : List ℕ → List ℕ → List ℕ → List ℕ → Option SheetRecord
parse_green node x y z = do
  phase ← number_in 8 x
  from ← number_in 32 y
  to ← number_in 32 z
  Some (Shows node (record { phase = phase; from = from; to = to }))

-- totals of a link's name, and what entered, left and waited
unfoldable pub parse_counts : List ℕ → List ℕ → List ℕ → List ℕ → Option SheetRecord
parse_counts link y z w = do
  entered ← number_in 64 y
  left ← number_in 64 z
  delay ← number_in 64 w
  Some (Counts link (record { entered = entered; left = left; delay = delay }))

-- totals of the network: what entered, left, is on the links, and waited
unfoldable pub parse_sums : List ℕ → List ℕ → List ℕ → List ℕ → Option SheetRecord
parse_sums x y z w = do
  entered ← number_in 64 x
  left ← number_in 64 y
  on ← number_in 64 z
  delay ← number_in 64 w
  Some (Sums (record { entered = entered; left = left; on = on; delay = delay }))

-- whether a field is one of the two kinds that are passed over
abbrev pub is_passed_over : List ℕ → Bool
is_passed_over kind = bytes_eq kind (codes "step") || bytes_eq kind (codes "plan")

-- What the fields of a record tell a sheet, by its kind: of a green the green of a node, of a link and in all the totals, and
-- nothing of a board step or a plan. None where the kind is another one, or a number is not written as it has to be.
unfoldable pub parse_fields : List ℕ → List ℕ → List ℕ → List ℕ → List ℕ → List ℕ → Option SheetRecord
parse_fields kind node x y z w =
    if bytes_eq kind (codes "green")
    then parse_green node x y z
    else (if bytes_eq kind (codes "link")
    then parse_counts x y z w
    else (if bytes_eq kind (codes "total") then parse_sums x y z w
    else (if is_passed_over kind then Some Ignored else None)))

-- what a record, as the list of its fields, tells a sheet; none where it does not have seven fields, or these are of no record of a
-- report
abbrev pub parse : List (List ℕ) → Option SheetRecord
parse (kind ∷ round ∷ node ∷ x ∷ y ∷ z ∷ w ∷ []) = parse_fields kind node x y z w
parse _ = None
