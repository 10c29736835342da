-- The first fault of the text of a history.
use Rattle.std.specs.Prelude.{◌≡◌, ℕ, ◌<◌, List, [], ◌∷◌, Some, None, IsSomeAnd}
use Rattle.std.specs.List.{concat}
use Rattle.net_parts.specs.Numbers.{Net, number_of}
use Rattle.histories.specs.Histories.{IsLawful}
use Rattle.histories.specs.Progress.{IsDoneInRound}
use Rattle.record_text.specs.Forms.{IsRefusedFor, Cause, OutOfMemory, NoHeader, AtRecord, AtEnd}
use Rattle.delay_report.specs.declared.faults.HistoryFault.{HistoryFault}
use Rattle.delay_report.specs.declared.faults.HistoryFault.TheVariants.{NoMemory, Header, Row, Node, Extra, Turn, Short}
use Rattle.delay_report.specs.Entries.{steps_of, node_field_of}
use Rattle.delay_report.specs.Texts.{AreUnderWay, form}

-- a record that tells nothing; a step of a name that no node has; and a step of a node, after a history all of whose rounds
-- are done, or in whose round the node has done all its steps
abbrev pub IsAtRow : List (List ℕ) → Type 0
IsAtRow fields = node_field_of fields ≡ None

abbrev pub IsAtNode : Net → List (List ℕ) → Type 0
IsAtNode net fields = IsSomeAnd (node_field_of fields) (λ name. IsSomeAnd name (λ n. number_of net.node_names n ≡ None))

abbrev pub IsAtExtra : Net → List ℕ → List (List ℕ) → Type 0
IsAtExtra net history fields = (node : ℕ) × (steps_of net fields ≡ Some (node ∷ [])) × IsLawful net history

abbrev pub IsAtTurn : Net → List ℕ → List (List ℕ) → Type 0
IsAtTurn net history fields = (node : ℕ) × (steps_of net fields ≡ Some (node ∷ [])) × IsDoneInRound net history node

-- the steps end before all rounds are done
pub record EndEarly (net : Net) (steps : List (List ℕ)) : Type 0 where
  pub under_way : AreUnderWay net steps
  pub early : under_way.done < net.run.rounds

-- what each fault says of a text
abbrev pub cause_of : Net → HistoryFault → Cause (List ℕ)
cause_of net NoMemory = OutOfMemory
cause_of net Header = NoHeader
cause_of net (Row n) = AtRecord n (λ before fields. IsAtRow fields)
cause_of net (Node n) = AtRecord n (λ before fields. IsAtNode net fields)
cause_of net (Extra n) = AtRecord n (λ before fields. IsAtExtra net (concat before) fields)
cause_of net (Turn n) = AtRecord n (λ before fields. IsAtTurn net (concat before) fields)
cause_of net Short = AtEnd (EndEarly net)

-- the first fault of a text that stands for no history
abbrev pub IsTextFault : Net → List ℕ → HistoryFault → Type 0
IsTextFault net bytes fault = IsRefusedFor (form net) bytes (cause_of net fault)
