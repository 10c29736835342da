-- The history that closed boards tell, and its run.
use Rattle.std.proofs.Common.{◌≡◌, ℕ, List, Vec, Global, Result, Ok, Err, IfOk}
use Rattle.board_model.specs.Boards.{Log}
use Rattle.link_boards.specs.Passes.{PassView, AreLogsOfPasses, calls_in}
use Rattle.net_parts.specs.Numbers.{Net}
use Rattle.node_rounds.specs.Calls.{IsRunOfCalls, MergeToLawful}
use Rattle.runs.specs.declared.records.RunRecord.{RunRecord}
use Rattle.delay_report.specs.Reports.{records_text, report_text, steps_records}
use Rattle.network_jobs.specs.Merged.{IsRunOfMerge, IsTextOfMerge}

-- The boards are closed with all passes: the run is that of the merge of their logs.
pub told : (net : Net) (arriving : ℕ → ℕ → ℕ) (links : ℕ) (passes : List PassView) (logs : List Log) (run : RunRecord)
    → AreLogsOfPasses links passes logs → MergeToLawful net (calls_in passes) → IsRunOfCalls net arriving (calls_in passes) run
    → IsRunOfMerge net arriving logs run
told net arriving links passes logs run closed lawful is_run history merge = record {
  lawful = lawful logs history closed.made merge;
  kept = is_run logs history closed.made closed.agree merge;
}

-- The steps are those of the merge of these logs: so is the report that they begin.
pub report-of : {E : Type 0} (net : Net) (run : RunRecord) (logs : List Log) (steps : List ℕ) (result : Result (Vec ℕ Global) E) → IsTextOfMerge logs (λ history. records_text (steps_records net history)) steps
    → ((history : List ℕ) → steps ≡ records_text (steps_records net history) → IfOk result (λ text. text.items ≡ report_text net run history))
    → IfOk result (λ text. IsTextOfMerge logs (report_text net run) text.items)
report-of net run logs steps (Ok text) told says = record { history = told.history; merge = told.merge; text_is = says told.history told.text_is }
report-of net run logs steps (Err error) told says = tt
