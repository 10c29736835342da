-- The replay of a report writes the report again.
use Rattle.std.proofs.Common.{◌≡◌, ℕ, List, sym, ap, subst, ◌∙◌}
use Rattle.delay_report.specs.Reports.{report_text}
use Rattle.delay_report.specs.Texts.{IsHistoryText}
use Rattle.histories.specs.Histories.{IsLawful}
use Rattle.net_parts.specs.Numbers.{Net}
use Rattle.runs.specs.Runs.{IsRun}
use Rattle.runs.specs.declared.records.RunRecord.{RunRecord}
use Rattle.network_jobs.specs.Headline.{Headline}

-- Below, a history has one run, its report is a text of it, and a text is a text of one history.
module _ (net : Net)
    (one_run : (arriving : ℕ → ℕ → ℕ) (history : List ℕ) (one other : RunRecord) → IsLawful net history → IsRun net arriving history one → IsRun net arriving history other → one ≡ other)
    (reads_back : (run : RunRecord) (history : List ℕ) → IsLawful net history → IsHistoryText net (report_text net run history) history)
    (one_history : (bytes one other : List ℕ) → IsHistoryText net bytes one → IsHistoryText net bytes other → one ≡ other) where
  -- two reports of runs of one history are the same
  same-report : (arriving : ℕ → ℕ → ℕ) (history bytes again : List ℕ) → Headline net arriving history bytes → Headline net arriving history again → again ≡ bytes
  same-report arriving history bytes again first second =
      second.report
      ∙ ap (λ (run : RunRecord). report_text net run history) (one_run arriving history second.run first.run first.runs.lawful second.runs.kept.run first.runs.kept.run)
      ∙ sym first.report

  -- so is the report of the run of the history that a report tells
  pub replayed : (arriving : ℕ → ℕ → ℕ) (history told bytes again : List ℕ) → Headline net arriving history bytes → IsHistoryText net bytes told → Headline net arriving told again → again ≡ bytes
  replayed arriving history told bytes again first tells second =
      let own : IsHistoryText net bytes history = subst (λ (text : List ℕ). IsHistoryText net text history) (sym first.report) (reads_back first.run history first.runs.lawful) in
      let same : told ≡ history = one_history bytes told history tells own in
      same-report arriving history bytes again first (subst (λ (h : List ℕ). Headline net arriving h again) same second)
