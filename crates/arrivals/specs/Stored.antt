-- What the steps of the code answer, and what they keep. No public clause names these definitions.
use Rattle.std.specs.Prelude.{◌≡◌, ℕ, ◌+◌, ◌-◌, ◌*◌, ◌<◌, ◌≤◌, ◌⊎◌, List, [], ◌∷◌, ◌++◌, None, Some, Result, Ok, Err, IsSomeAnd, length, slice_index_or, sum_by, All, AllPairs}
use Rattle.foundation.specs.Options.{each}
use Rattle.net_parts.specs.Limits.{most_of_all}
use Rattle.net_parts.specs.Numbers.{Net, number_of}
use Rattle.arrivals.specs.declared.rows.ArrivalRow.{ArrivalRow}
use Rattle.arrivals.specs.declared.rows.RowFault.{RowFault}
use Rattle.arrivals.specs.declared.rows.RowFault.TheVariants.{NoMemory, Row, Link, Bound, Sum}
use Rattle.arrivals.specs.Amounts.{IsBefore}
use Rattle.arrivals.specs.Faults.{IsAtLink, IsAtBound}
use Rattle.arrivals.specs.Records.{parse, parse_in}
use Rattle.arrivals.specs.Rows.{IsRow, AreRows, amount_of, arriving_by}

-- rows that each bring something, and their sum, which is within its bound
pub record IsStored (rows : List ArrivalRow) (whole : ℕ) : Type 0 where
  pub least : All (λ r. 1 ≤ r.amount) rows
  pub adds : whole ≡ sum_by amount_of rows
  pub few : whole ≤ most_of_all

-- a lawful row with which all bring no more than they may, where the rows before it bring this
pub record IsTaken (net : Net) (r : ArrivalRow) (whole : ℕ) : Type 0 where
  pub lawful : IsRow net r
  pub few : whole + r.amount ≤ most_of_all

-- why the row with this number is refused, where the rows before it bring this
abbrev pub IsRefused : Net → ArrivalRow → ℕ → ℕ → RowFault → Type 0
IsRefused net r number whole NoMemory = Unit {0}
IsRefused net r number whole (Link n) = (n ≡ number) × IsAtLink net r
IsRefused net r number whole (Bound n) = (n ≡ number) × IsAtBound net r
IsRefused net r number whole (Sum n) = (n ≡ number) × IsRow net r × (most_of_all < whole + r.amount)
IsRefused net r number whole _ = ⊥

-- the row of a record; else the record tells none, or its name is no link's
abbrev pub Reads : Net → List (List ℕ) → ℕ → Result ArrivalRow RowFault → Type 0
Reads net fields number (Ok r) = parse_in net fields ≡ Some r
Reads net fields number (Err (Row n)) = (n ≡ number) × (parse fields ≡ None)
Reads net fields number (Err (Link n)) =
    (n ≡ number) × IsSomeAnd (parse fields) (λ t. number_of net.link_names t.name ≡ None)
Reads net fields number (Err _) = ⊥

-- the rows are those that these records tell, and they are lawful
pub record HasRead (net : Net) (records : List (List (List ℕ))) (rows : List ArrivalRow) : Type 0 where
  pub reads : each (parse_in net) records ≡ Some rows
  pub lawful : AreRows net rows

-- the record with this number tells no row, or its row is refused after these
abbrev pub IsFaultAt : Net → List ArrivalRow → List (List ℕ) → ℕ → RowFault → Type 0
IsFaultAt net rows fields number fault =
    Reads net fields number (Err fault)
    ⊎ ((r : ArrivalRow) × (parse_in net fields ≡ Some r) × IsRefused net r number (sum_by amount_of rows) fault)

-- a number by which rows are in order: the second counts more than the link
abbrev pub order_of : ArrivalRow → ℕ
order_of r = r.second * 4294967296 + r.link

-- the last row, where there is one, is not after this place
abbrev pub EndsBy : ℕ → List ArrivalRow → Type 0
EndsBy place rows = (d : ArrivalRow) → 0 < length rows → order_of (slice_index_or rows (length rows - 1) d) ≤ place

-- the last row has the second and the link of this one
pub record EndsWith (r : ArrivalRow) (rows : List ArrivalRow) : Type 0 where
  pub some : 0 < length rows
  pub second : (d : ArrivalRow) → (slice_index_or rows (length rows - 1) d).second ≡ r.second
  pub link : (d : ArrivalRow) → (slice_index_or rows (length rows - 1) d).link ≡ r.link

-- kept rows with one row more, which was added to the last where that has its second and link
pub record IsJoined (old : List ArrivalRow) (r : ArrivalRow) (new : List ArrivalRow) : Type 0 where
  pub order : AllPairs IsBefore new
  pub ends : EndsBy (order_of r) new
  pub least : All (λ s. 1 ≤ s.amount) old → 1 ≤ r.amount → All (λ s. 1 ≤ s.amount) new
  pub sums : (link second : ℕ) → arriving_by new second link ≡ arriving_by (old ++ r ∷ []) second link
  pub whole : sum_by amount_of new ≡ sum_by amount_of old + r.amount
