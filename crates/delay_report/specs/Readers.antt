-- What the steps of the code answer. No public clause names these definitions.
use Rattle.std.specs.Prelude.{◌≡◌, ℕ, List, [], ◌∷◌, ◌++◌, Option, Some, None}
use Rattle.std.specs.List.{concat}
use Rattle.foundation.specs.Options.{each}
use Rattle.net_parts.specs.Numbers.{Net}
use Rattle.histories.specs.Progress.{Course, HasCome}
use Rattle.delay_report.specs.declared.faults.HistoryFault.{HistoryFault}
use Rattle.delay_report.specs.declared.faults.HistoryFault.TheVariants.{NoMemory, Row, Node, Extra, Turn}
use Rattle.delay_report.specs.declared.texts.HistoryReader.{HistoryReader}
use Rattle.delay_report.specs.Entries.{steps_of}
use Rattle.delay_report.specs.Faults.{IsAtExtra, IsAtNode, IsAtRow, IsAtTurn}

-- the steps of a node that may be absent
abbrev pub steps_if : Option ℕ → List ℕ
steps_if None = []
steps_if (Some node) = node ∷ []

-- why the record with this number is at fault after a history
abbrev pub IsEntryFault : Net → List ℕ → List (List ℕ) → ℕ → HistoryFault → Type 0
IsEntryFault net history fields number NoMemory = Unit {0}
IsEntryFault net history fields number (Row n) = (n ≡ number) × IsAtRow fields
IsEntryFault net history fields number (Node n) = (n ≡ number) × IsAtNode net fields
IsEntryFault net history fields number (Extra n) = (n ≡ number) × IsAtExtra net history fields
IsEntryFault net history fields number (Turn n) = (n ≡ number) × IsAtTurn net history fields
IsEntryFault net history fields number _ = ⊥

-- the steps of a record were taken after a history
pub record AreTaken (net : Net) (fields : List (List ℕ)) (old new : List ℕ) (p : Course) : Type 0 where
  pub more : List ℕ
  pub parsed : steps_of net fields ≡ Some more
  pub new_is : new ≡ old ++ more
  pub come : HasCome net new p

-- the reader has the steps of all these records
pub record HasRead (net : Net) (records : List (List (List ℕ))) (reader : HistoryReader) : Type 0 where
  pub steps : List (List ℕ)
  pub reads : each (steps_of net) records ≡ Some steps
  pub history_is : reader.steps.items ≡ concat steps
  pub come : HasCome net reader.steps.items reader.progress

-- the record with this number is at fault after what the reader has
abbrev pub IsFaultAt : Net → HistoryReader → List (List ℕ) → ℕ → HistoryFault → Type 0
IsFaultAt net reader fields number fault = IsEntryFault net reader.steps.items fields number fault
