-- What logs tell by their merge. No public clause names these definitions.
use Rattle.std.specs.Prelude.{◌≡◌, ℕ, List}
use Rattle.board_model.specs.Boards.{Log}
use Rattle.histories.specs.Histories.{IsLawful}
use Rattle.histories.specs.Merges.{IsMerge}
use Rattle.net_parts.specs.Numbers.{Net}
use Rattle.runs.specs.declared.records.RunRecord.{RunRecord}
use Rattle.bounded_runs.specs.Runs.{IsRunOf}

-- these logs have a lawful merge, whichever it is
abbrev pub HaveLawfulMerge : Net → List Log → Type 0
HaveLawfulMerge net logs = (history : List ℕ) → IsMerge logs history → IsLawful net history

-- this is the run of the merge of these logs
abbrev pub IsRunOfMerge : Net → (ℕ → ℕ → ℕ) → List Log → RunRecord → Type 0
IsRunOfMerge net arriving logs run = (history : List ℕ) → IsMerge logs history → IsRunOf net arriving history run

-- the text is what this makes of the merge of these logs
pub record IsTextOfMerge (logs : List Log) (text_of : List ℕ → List ℕ) (text : List ℕ) : Type 0 where
  pub history : List ℕ
  pub merge : IsMerge logs history
  pub text_is : text ≡ text_of history
