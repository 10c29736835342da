use Rattle.outflow.proofs.RowLaws.{IsRowing}
use Rattle.outflow.proofs.forecasting.rows.Given as goal

abbrev pub invariant-loop-k : goal.invariant-loop-k
invariant-loop-k l = IsRowing l.now l.amounts l.forecast l.k
