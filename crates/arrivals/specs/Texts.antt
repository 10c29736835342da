-- Which arrivals a text stands for, and why it stands for none.
use Rattle.std.specs.Prelude.{◌≡◌, ℕ, List, None, IsSomeAnd}
use Rattle.net_parts.specs.Numbers.{Net, number_of}
use Rattle.arrivals.specs.declared.rows.ArrivalRow.{ArrivalRow}
use Rattle.arrivals.specs.declared.rows.RowFault.{RowFault}
use Rattle.arrivals.specs.declared.rows.RowFault.TheVariants.{NoMemory, Header, Row, Link, Bound, Sum}
use Rattle.arrivals.specs.Amounts.{Amounts, AreArrivalsOf}
use Rattle.arrivals.specs.Faults.{IsAtBound, IsAtSum}
use Rattle.arrivals.specs.Records.{header, parse, parse_in}
use Rattle.arrivals.specs.Rows.{AreRows, IsSource}
use Rattle.record_text.specs.Forms.{Form, IsTextOf, IsRefusedFor, Cause, OutOfMemory, NoHeader, AtRecord}

-- the form of the text: records after the first tell rows, and rows bring arrivals
abbrev pub form : Net → Form ArrivalRow Amounts
form net = record { header = header; read = parse_in net; lawful = AreRows net; is_of = AreArrivalsOf net }

-- the name is that of a link that comes from no node
abbrev pub IsSourceName : Net → List ℕ → Type 0
IsSourceName net name = IsSomeAnd (number_of net.link_names name) (IsSource net)

-- what each fault says of a text
abbrev pub cause_of : Net → RowFault → Cause ArrivalRow
cause_of net NoMemory = OutOfMemory
cause_of net Header = NoHeader
cause_of net (Row n) = AtRecord n (λ before fields. parse fields ≡ None)
cause_of net (Link n) = AtRecord n (λ before fields. IsSomeAnd (parse fields) (λ t. ¬ IsSourceName net t.name))
cause_of net (Bound n) = AtRecord n (λ before fields. IsSomeAnd (parse_in net fields) (IsAtBound net))
cause_of net (Sum n) = AtRecord n (λ before fields. IsSomeAnd (parse_in net fields) (IsAtSum net before))

-- the arrivals of a text
abbrev pub IsArrivalText : Net → List ℕ → Amounts → Type 0
IsArrivalText net bytes a = IsTextOf (form net) bytes a

-- the first fault of a text that stands for no arrivals
abbrev pub IsTextFault : Net → List ℕ → RowFault → Type 0
IsTextFault net bytes fault = IsRefusedFor (form net) bytes (cause_of net fault)
