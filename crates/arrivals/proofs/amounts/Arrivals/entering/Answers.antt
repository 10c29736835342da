use Rattle.std.proofs.Common.{arith}
use Rattle.arrivals.proofs.RowLaws.{rows-within}
use Rattle.arrivals.proofs.amounts.Arrivals.entering.Goals as goal

pub returns-clause-few : goal.returns-clause-few
returns-clause-few c n m = omega (arith, rows-within c.args.self.now.rows n m, c.in_second-rows.ensures.kept.few)
