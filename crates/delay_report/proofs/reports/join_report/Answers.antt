use Rattle.std.proofs.Common.{◌++◌, ap, ◌∙◌}
use Rattle.delay_report.specs.Reports.{records_text, steps_records}
use Rattle.delay_report.proofs.RenderLaws.{both-parts}
use Rattle.delay_report.proofs.reports.join_report.Goals as goal

pub returns : goal.returns
returns c = record {
  text = λ run history steps outcome.
      c.in_ok-extend_from_slice.ensures.items ∙ ap (λ l. l ++ c.args.outcome.now) steps ∙ ap (λ l. records_text (steps_records c.args.net.now history) ++ l) outcome ∙ both-parts c.args.net.now run history;
}
