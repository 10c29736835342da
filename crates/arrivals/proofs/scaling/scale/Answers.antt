use Rattle.std.proofs.Common.{subst}
use Rattle.arrivals.specs.Faults.{IsRowFault}
use Rattle.arrivals.proofs.ScalingLaws.{come-few, come-over, come-scaled, no-bound, no-link}
use Rattle.arrivals.proofs.scaling.scale.Goals as goal

pub returns-in-Ok-new-clause-ok : goal.returns-in-Ok-new-clause-ok
returns-in-Ok-new-clause-ok c = come-scaled c.args.net.now c.args.factor c.args.arrivals.now c.in-Ok.rows.items c.in-Ok.ensures c.in-Ok-new.scaled c.in-Ok-new.ensures.ok

pub returns-in-Err-Sum-clause-sum : goal.returns-in-Err-Sum-clause-sum
returns-in-Err-Sum-clause-sum c _ =
    come-over c.args.net.now c.args.factor c.args.arrivals.now c.in-Ok.rows.items c.in-Ok.ensures c.law_of_network.ensures c.requires.arrivals c.in-Err-Sum.field-0-0
    (subst (IsRowFault c.args.net.now c.in-Ok.rows.items) c.in-Err-Sum.field-0-is c.in-Err-Sum.ensures.first)

pub returns-in-Ok-new-clause-few : goal.returns-in-Ok-new-clause-few
returns-in-Ok-new-clause-few c = come-few c.args.net.now c.args.factor c.args.arrivals.now c.in-Ok.rows.items c.in-Ok.ensures c.law_of_network.ensures c.requires.arrivals c.in-Ok-new.scaled c.in-Ok-new.ensures.ok

pub unreachable-requires-in-Err-Link : goal.unreachable-requires-in-Err-Link
unreachable-requires-in-Err-Link c =
    no-link c.args.net.now c.in-Ok.rows.items c.in-Err-Link.field-0-0 c.in-Ok.ensures.lawful
    (subst (IsRowFault c.args.net.now c.in-Ok.rows.items) c.in-Err-Link.field-0-is c.in-Err-Link.ensures.first)

pub unreachable-requires-in-Err-Bound : goal.unreachable-requires-in-Err-Bound
unreachable-requires-in-Err-Bound c =
    no-bound c.args.net.now c.in-Ok.rows.items c.in-Err-Bound.field-0-0 c.in-Ok.ensures.lawful
    (subst (IsRowFault c.args.net.now c.in-Ok.rows.items) c.in-Err-Bound.field-0-is c.in-Err-Bound.ensures.first)
