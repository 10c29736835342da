use Rattle.std.proofs.Common.{◌∙◌}
use Rattle.clusters.proofs.CutLaws.{first-found}
use Rattle.clusters.proofs.cuts.first_filled.Goals as goal

pub returns-clause-value : goal.returns-clause-value
returns-clause-value c = c.unwrap_or.ensures ∙ first-found c.args.series.now c.next_filled.result c.next_filled.ensures.none c.next_filled.ensures.some
