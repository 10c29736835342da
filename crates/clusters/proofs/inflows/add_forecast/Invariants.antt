use Rattle.clusters.proofs.ForecastLaws.{IsPutting}
use Rattle.clusters.proofs.inflows.add_forecast.Given as goal

abbrev pub invariant-loop-row : goal.invariant-loop-row
invariant-loop-row l = IsPutting l.now l.from l.rows l.initial.amounts l.amounts l.row-index
