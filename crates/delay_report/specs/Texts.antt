-- Which history a text stands for.
use Rattle.std.specs.Prelude.{◌≡◌, ℕ, List}
use Rattle.std.specs.List.{concat}
use Rattle.net_parts.specs.Numbers.{Net}
use Rattle.histories.specs.Histories.{IsLawful, IsUnderWay}
use Rattle.histories.specs.Steps.{board_steps}
use Rattle.record_text.specs.Forms.{Form, IsTextOf}
use Rattle.world_records.specs.Records.{header}
use Rattle.delay_report.specs.Entries.{steps_of}

-- the steps of records are a history under way, of which this many rounds are done
pub record AreUnderWay (net : Net) (steps : List (List ℕ)) : Type 0 where
  pub done : ℕ
  pub way : IsUnderWay (board_steps net) net.run.rounds done (concat steps)

-- the steps of records are this history, which is lawful
pub record AreStepsOf (net : Net) (steps : List (List ℕ)) (history : List ℕ) : Type 0 where
  pub history_is : history ≡ concat steps
  pub lawful : IsLawful net history

-- the form of the text: records after the first tell steps of a history
abbrev pub form : Net → Form (List ℕ) (List ℕ)
form net = record { header = header; read = steps_of net; lawful = AreUnderWay net; is_of = AreStepsOf net }

-- the history of a text
abbrev pub IsHistoryText : Net → List ℕ → List ℕ → Type 0
IsHistoryText net bytes history = IsTextOf (form net) bytes history
