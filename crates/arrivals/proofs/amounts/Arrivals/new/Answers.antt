use Rattle.std.proofs.Common.{rules}
use Rattle.std.proofs.lemmas.Result.{IfErr-weaker}
use Rattle.arrivals.specs.Faults.{IsRowFault}
use Rattle.arrivals.proofs.FaultLaws.{row-refuses}
use Rattle.arrivals.proofs.RowLaws.{arrivals-of}
use Rattle.arrivals.proofs.amounts.Arrivals.new.Goals as goal

pub returns-in_err-check_all-clause-refused : goal.returns-in_err-check_all-clause-refused
returns-in_err-check_all-clause-refused c = IfErr-weaker _ (IsRowFault c.args.net.now c.args.rows.items) _ (row-refuses c.args.net.now c.args.rows.items) (search rules)

pub returns-clause-arrivals : goal.returns-clause-arrivals
returns-clause-arrivals c = arrivals-of c.args.net.now c.args.rows.items _ (search rules)
