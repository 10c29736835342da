-- What the steps of the code answer. No public clause names these definitions.
use Rattle.std.specs.Prelude.{◌≡◌, ℕ, ◌<◌, List, [], ◌∷◌, ◌++◌, Option, Some, None, All, filter_map, length, slice_index_or, take}
use Rattle.foundation.specs.Options.{each}
use Rattle.net_parts.specs.Numbers.{Net}
use Rattle.net_parts.specs.Outline.{node_name_at}
use Rattle.net_simulator.specs.declared.totals.Totals.{Totals}
use Rattle.audit.specs.declared.sheet_reader.SheetReader.{SheetReader}
use Rattle.audit.specs.declared.sheet_entries.Entry.{Entry}
use Rattle.audit.specs.declared.sheet_entries.Entry.TheVariants as entry
use Rattle.audit.specs.declared.sheet_faults.SheetFault.{SheetFault}
use Rattle.audit.specs.declared.sheet_faults.SheetFault.TheVariants.{NoMemory, Row, Extra, Name}
use Rattle.audit.specs.SheetFaults.{IsAtExtra, IsAtName, IsAtRow, IsExtra, IsMisnamed}
use Rattle.audit.specs.SheetTexts.{NamesNode, counts_of, green_of, link_of, links_counted, sums_of}
use Rattle.audit.specs.SheetRecords.{Counts, Ignored, Shows, Sums, SheetRecord, parse}

-- an entry, in the terms of what is told
abbrev pub in_words : Entry → SheetRecord
in_words entry.Ignored = Ignored
in_words (entry.Shows node green) = Shows node.now green
in_words (entry.Counts link totals) = Counts link.now totals
in_words (entry.Sums totals) = Sums totals

-- the totals that may be absent
abbrev pub sums_if : Option Totals → List Totals
sums_if None = []
sums_if (Some totals) = totals ∷ []

-- The reader of a sheet has what was told, none of which was at fault.
pub record HasCome (net : Net) (parsed : List SheetRecord) (reader : SheetReader) : Type 0 where
  pub nodes : All (NamesNode net) parsed
  pub names : filter_map link_of parsed ≡ take (links_counted parsed) net.link_names
  pub lines : length reader.lines.items ≡ length net.node_names
  pub shown : (k : ℕ) → k < length net.node_names
      → slice_index_or reader.lines.items k [] ≡ filter_map (green_of (node_name_at net k)) parsed
  pub counted : reader.links.items ≡ filter_map counts_of parsed
  pub once : filter_map sums_of parsed ≡ sums_if reader.totals

-- the reader of a sheet took what was told more
abbrev pub IsMore : Net → SheetReader → SheetRecord → SheetReader → Type 0
IsMore net old t new = (parsed : List SheetRecord) → HasCome net parsed old → HasCome net (parsed ++ t ∷ []) new

-- why what the record with this number tells is at fault after what was told
abbrev pub IsRecordFault : Net → List SheetRecord → SheetRecord → ℕ → SheetFault → Type 0
IsRecordFault net parsed t number NoMemory = Unit {0}
IsRecordFault net parsed t number (Extra n) = (n ≡ number) × IsExtra net parsed t
IsRecordFault net parsed t number (Name n) = (n ≡ number) × IsMisnamed net parsed t
IsRecordFault net parsed t number _ = ⊥

-- why the record with this number is at fault after what was told
abbrev pub IsEntryFault : Net → List SheetRecord → List (List ℕ) → ℕ → SheetFault → Type 0
IsEntryFault net parsed fields number NoMemory = Unit {0}
IsEntryFault net parsed fields number (Row n) = (n ≡ number) × IsAtRow fields
IsEntryFault net parsed fields number (Extra n) = (n ≡ number) × IsAtExtra net parsed fields
IsEntryFault net parsed fields number (Name n) = (n ≡ number) × IsAtName net parsed fields
IsEntryFault net parsed fields number _ = ⊥

-- the record with this number is at fault after what was read
abbrev pub IsFaultAt : Net → SheetReader → List (List ℕ) → ℕ → SheetFault → Type 0
IsFaultAt net reader fields number fault =
    (parsed : List SheetRecord) → HasCome net parsed reader → IsEntryFault net parsed fields number fault

-- what all these records tell was read
pub record HasRead (net : Net) (records : List (List (List ℕ))) (reader : SheetReader) : Type 0 where
  pub parsed : List SheetRecord
  pub reads : each parse records ≡ Some parsed
  pub come : HasCome net parsed reader
