-- The report of a run is all that the headline says.
use Rattle.std.proofs.Common.{◌≡◌, ℕ, ◌≤◌, List, sym, subst}
use Rattle.arrivals.specs.Amounts.{Amounts, AreArrivals, arriving_of}
use Rattle.net_parts.specs.Limits.{most_of_all}
use Rattle.audit.specs.Audits.{IsCleanText}
use Rattle.bounded_runs.specs.Runs.{IsRunOf}
use Rattle.network_jobs.specs.Headline.{Headline}
use Rattle.delay_report.specs.Reports.{report_text}
use Rattle.net_parts.specs.Numbers.{Net}
use Rattle.net_simulator.specs.Sums.{total_arrived}
use Rattle.net_simulator.proofs.Passing.{few-of}
use Rattle.road_net.specs.Network.{IsNetwork}
use Rattle.runs.specs.Promises.{IsKeptRun}
use Rattle.runs.specs.declared.records.RunRecord.{RunRecord}

-- the report of a run is a clean text
abbrev pub AreClean : Net → Type 0
AreClean net = (run : RunRecord) (history : List ℕ) (arriving : ℕ → ℕ → ℕ) → IsKeptRun net arriving history run → ((n : ℕ) → total_arrived net arriving n ≤ most_of_all)
    → IsCleanText net arriving (report_text net run history)

pub headline : (net : Net) → IsNetwork net → AreClean net → (arrivals : Amounts) → AreArrivals net arrivals → (history : List ℕ) (run : RunRecord) (bytes : List ℕ) → IsRunOf net (arriving_of arrivals) history run
    → bytes ≡ report_text net run history → Headline net (arriving_of arrivals) history bytes
headline net network clean arrivals enter history run bytes runs report = record {
  run = run;
  runs = runs;
  report = report;
  clean = subst (IsCleanText net (arriving_of arrivals)) (sym report) (clean run history (arriving_of arrivals) runs.kept (few-of net network arrivals enter));
}
