-- The kind of texts that say a history.
use Rattle.std.specs.Prelude.{◌≢◌, ℕ, List}
use Rattle.delay_report.specs.Codes.{history_code}
use Rattle.delay_report.specs.Faults.{IsTextFault}
use Rattle.delay_report.specs.Texts.{IsHistoryText}
use Rattle.delay_report.specs.declared.faults.HistoryFault.{HistoryFault}
use Rattle.delay_report.specs.declared.faults.HistoryFault.TheVariants.{NoMemory}
use Rattle.net_parts.specs.Numbers.{Net}
use Rattle.commands.specs.Kinds.{Kind}

-- the first fault of a text that is to say a history
abbrev pub IsBadHistory : Net → List ℕ → HistoryFault → Type 0
IsBadHistory net text fault = IsTextFault net text fault × (fault ≢ NoMemory)

-- the kind of texts that say a history of a network, the node of each board step
abbrev pub HistoryText : Net → Kind
HistoryText net =
    record {
      Said = List ℕ;
      Fault = HistoryFault;
      is_text = IsHistoryText net;
      is_fault = IsBadHistory net;
      code = history_code;
    }
