use Rattle.std.proofs.Common.{ap}
use Rattle.audit.specs.declared.sheet.Sheet.{Sheet}
use Rattle.controller_jobs.proofs.compare_fixed.fixed_totals.Goals as goal

pub returns : goal.returns
returns c = ap (λ (s : Sheet). s.totals) c.in_ok-run.ensures.value
