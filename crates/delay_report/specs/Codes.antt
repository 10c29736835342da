-- The codes of faults of a history.
use Rattle.std.specs.Prelude.{ℕ, List, [], ◌++◌, codes}
use Rattle.std.specs.Fmt.{decimal}
use Rattle.delay_report.specs.declared.faults.HistoryFault.{HistoryFault}
use Rattle.delay_report.specs.declared.faults.HistoryFault.TheVariants as history

-- the code of a fault of a history: the header, the first row at fault, from 1, or that it ends too early; `NoMemory` has none
abbrev pub history_code : HistoryFault → List ℕ
history_code history.NoMemory = []
history_code history.Header = codes "header"
history_code (history.Row n) = codes "row " ++ decimal n
history_code (history.Node n) = codes "node " ++ decimal n
history_code (history.Extra n) = codes "extra " ++ decimal n
history_code (history.Turn n) = codes "turn " ++ decimal n
history_code history.Short = codes "short"
