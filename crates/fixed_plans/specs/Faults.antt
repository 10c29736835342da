-- Which fixed plan a text stands for, and why it stands for none.
use Rattle.std.specs.Prelude.{◌≡◌, ℕ, List, None, IsSomeAnd}
use Rattle.net_parts.specs.Numbers.{Net, number_of}
use Rattle.net_parts.specs.Outline.{plan_at}
use Rattle.record_text.specs.Forms.{Form, IsTextOf, IsRefusedFor, Cause, OutOfMemory, NoHeader, AtRecord, AtEnd}
use Rattle.fixed_plans.specs.declared.faults.FixedFault.{FixedFault}
use Rattle.fixed_plans.specs.declared.faults.FixedFault.TheVariants.{NoMemory, Header, Row, Node, Phase, Green, Offset, Short}
use Rattle.fixed_plans.specs.declared.rows.FixedRow.{FixedRow}
use Rattle.fixed_plans.specs.Records.{header, parse, parse_in}
use Rattle.fixed_plans.specs.Rows.{AreRowsAfter, ComesNext, HasGreen, HasOffset, IsEnd, IsPlanOf, last_of}

-- the form of the text: records after the first tell the rows of a fixed plan
abbrev pub form : Net → Form FixedRow (List FixedRow)
form net = record { header = header; read = parse_in net; lawful = AreRowsAfter net None; is_of = IsPlanOf net }

-- a record that tells nothing, and one of no node
abbrev pub IsAtRow : List (List ℕ) → Type 0
IsAtRow fields = parse fields ≡ None

abbrev pub IsAtNode : Net → List (List ℕ) → Type 0
IsAtNode net fields = IsSomeAnd (parse fields) (λ t. number_of net.node_names t.name ≡ None)

-- after these rows, one that does not come next; one that does, with a green out of its bounds; and one that does, with a green within
-- them, and another offset than it may have
abbrev pub IsAtPhase : Net → List FixedRow → FixedRow → Type 0
IsAtPhase net before r = ¬ ComesNext net (last_of None before) r

abbrev pub IsAtGreen : Net → List FixedRow → FixedRow → Type 0
IsAtGreen net before r = ComesNext net (last_of None before) r × ¬ HasGreen (plan_at net r.node) r

abbrev pub IsAtOffset : Net → List FixedRow → FixedRow → Type 0
IsAtOffset net before r =
    ComesNext net (last_of None before) r × HasGreen (plan_at net r.node) r × ¬ HasOffset (last_of None before) r

-- these rows end before a row that may be the last of the last node
abbrev pub EndEarly : Net → List FixedRow → Type 0
EndEarly net rows = ¬ IsEnd net (last_of None rows)

-- what each fault says of a text
abbrev pub cause_of : Net → FixedFault → Cause FixedRow
cause_of net NoMemory = OutOfMemory
cause_of net Header = NoHeader
cause_of net (Row n) = AtRecord n (λ before fields. IsAtRow fields)
cause_of net (Node n) = AtRecord n (λ before fields. IsAtNode net fields)
cause_of net (Phase n) = AtRecord n (λ before fields. IsSomeAnd (parse_in net fields) (IsAtPhase net before))
cause_of net (Green n) = AtRecord n (λ before fields. IsSomeAnd (parse_in net fields) (IsAtGreen net before))
cause_of net (Offset n) = AtRecord n (λ before fields. IsSomeAnd (parse_in net fields) (IsAtOffset net before))
cause_of net Short = AtEnd (EndEarly net)

-- the fixed plan of a text
abbrev pub IsPlanText : Net → List ℕ → List FixedRow → Type 0
IsPlanText net bytes rows = IsTextOf (form net) bytes rows

-- the first fault of a text that stands for no fixed plan
abbrev pub IsTextFault : Net → List ℕ → FixedFault → Type 0
IsTextFault net bytes fault = IsRefusedFor (form net) bytes (cause_of net fault)
