use Rattle.std.proofs.Common.{arith}
use Rattle.arrivals.proofs.SecondLaws.{later, taken}
use Rattle.arrivals.proofs.amounts.next_amount.Goals as goal

pub returns-then-row-link-clause-amount : goal.returns-then-row-link-clause-amount
returns-then-row-link-clause-amount c = (later c.args.rows.now c.args.link c.requires c.in-Some.row.now c.in-Some.rest.now c.in-Some.ensures.cases.0 (omega (arith, c.if-row-link.true))).0

pub returns-clause-amount : goal.returns-clause-amount
returns-clause-amount c = (taken c.args.rows.now c.args.link c.requires c.in-Some.row.now c.in-Some.rest.now c.in-Some.ensures.cases.0 (omega (arith, c.if-row-link.false))).0
