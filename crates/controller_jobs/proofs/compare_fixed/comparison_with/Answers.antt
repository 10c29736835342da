use Rattle.std.proofs.Common.{codes, ◌++◌, ap, ◌∙◌}
use Rattle.net_simulator.specs.declared.totals.Totals.{Totals}
use Rattle.bounded_runs.specs.Totals.{totals_line}
use Rattle.controller_jobs.proofs.compare_fixed.comparison_with.Goals as goal

pub returns : goal.returns
returns c = record {
  both = c.in_ok-text.text.items;
  are_both = c.in_ok-text.ensures;
  lines = c.in_ok-push_totals.ensures ∙ ap (λ (t : Totals). c.in_ok-text.text.items ++ totals_line (codes "fixed") t) c.in_ok-of_rows.ensures;
}
