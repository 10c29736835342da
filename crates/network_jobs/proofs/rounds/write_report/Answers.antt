use Rattle.std.proofs.Common.{◌≡◌, Vec, Global, ℕ, Result, IfOk, ◌∙◌, subst}
use Rattle.delay_report.specs.Reports.{outcome_records, records_text, steps_records}
use Rattle.network_jobs.specs.Merged.{IsTextOfMerge}
use Rattle.network_jobs.proofs.Telling.{report-of}
use Rattle.network_jobs.proofs.rounds.write_report.Goals as goal

pub returns : goal.returns
returns g c =
    let steps = subst (λ (r : Result (Vec ℕ Global) _). IfOk r (λ text. IsTextOfMerge c.args.logged.logs.items (λ history. records_text (steps_records c.args.net.now history)) text.items)) c.in_ok-steps.was c.join-outcome.ensures.second in
    let outcome = subst (λ (r : Result (Vec ℕ Global) _). IfOk r (λ text. text.items ≡ records_text (outcome_records c.args.net.now c.args.logged.run))) c.in_ok-outcome.was c.join-outcome.ensures.first in
    report-of c.args.net.now c.args.logged.run c.args.logged.logs.items c.in_ok-steps.steps.items c.join_report.result steps
    (λ history is. c.join_report.ensures.text c.args.logged.run history is (c.as_slice.ensures.value ∙ outcome))
