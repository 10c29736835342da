-- The first fault of the text of a sheet.
use Rattle.std.specs.Prelude.{◌≡◌, ◌≢◌, ℕ, ◌<◌, ◌⊎◌, List, [], None, IsSomeAnd, Contains, filter_map, length}
use Rattle.net_parts.specs.Numbers.{Net}
use Rattle.net_parts.specs.Outline.{link_name_at}
use Rattle.record_text.specs.Forms.{IsRefusedFor, Cause, OutOfMemory, NoHeader, AtRecord, AtEnd}
use Rattle.audit.specs.declared.sheet_faults.SheetFault.{SheetFault}
use Rattle.audit.specs.declared.sheet_faults.SheetFault.TheVariants.{NoMemory, Header, Row, Extra, Name, Short}
use Rattle.audit.specs.SheetTexts.{form, links_counted, sums_of}
use Rattle.audit.specs.SheetRecords.{Counts, Shows, Sums, SheetRecord, parse}

-- after this, totals of a link where all links were told, and totals of the network where they were told
abbrev pub IsExtra : Net → List SheetRecord → SheetRecord → Type 0
IsExtra net parsed (Counts link totals) = links_counted parsed ≡ length net.link_names
IsExtra net parsed (Sums totals) = length (filter_map sums_of parsed) ≡ 1
IsExtra net parsed _ = ⊥

-- after this, a green of no node, and totals of a link that is not the next one
abbrev pub IsMisnamed : Net → List SheetRecord → SheetRecord → Type 0
IsMisnamed net parsed (Shows node green) = ¬ Contains net.node_names node
IsMisnamed net parsed (Counts link totals) =
    (links_counted parsed < length net.link_names) × (link ≢ link_name_at net (links_counted parsed))
IsMisnamed net parsed _ = ⊥

-- a record that tells nothing; one that tells too much; and one with another name than it may have
abbrev pub IsAtRow : List (List ℕ) → Type 0
IsAtRow fields = parse fields ≡ None

abbrev pub IsAtExtra : Net → List SheetRecord → List (List ℕ) → Type 0
IsAtExtra net parsed fields = IsSomeAnd (parse fields) (IsExtra net parsed)

abbrev pub IsAtName : Net → List SheetRecord → List (List ℕ) → Type 0
IsAtName net parsed fields = IsSomeAnd (parse fields) (IsMisnamed net parsed)

-- totals of a link or of the whole network are not told
abbrev pub IsEarly : Net → List SheetRecord → Type 0
IsEarly net parsed = (links_counted parsed < length net.link_names) ⊎ (filter_map sums_of parsed ≡ [])

-- what each fault says of a text
abbrev pub cause_of : Net → SheetFault → Cause SheetRecord
cause_of net NoMemory = OutOfMemory
cause_of net Header = NoHeader
cause_of net (Row n) = AtRecord n (λ parsed fields. IsAtRow fields)
cause_of net (Extra n) = AtRecord n (IsAtExtra net)
cause_of net (Name n) = AtRecord n (IsAtName net)
cause_of net Short = AtEnd (IsEarly net)

-- the first fault of a text that stands for no sheet
abbrev pub IsTextFault : Net → List ℕ → SheetFault → Type 0
IsTextFault net bytes fault = IsRefusedFor (form net) bytes (cause_of net fault)
