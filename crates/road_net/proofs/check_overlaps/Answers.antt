use Rattle.net_parts.specs.Parts.{net_of}
use Rattle.road_net.proofs.FirstFaults.{halted, also-fault, conflicts-fault, yields-fault, walks-last}
use Rattle.road_net.proofs.check_overlaps.Goals as goal

pub returns-in_err-check_also : goal.returns-in_err-check_also
returns-in_err-check_also c =
    let net = net_of c.args.parts.now in
    halted net _ c.from_residual.result (also-fault net c.requires.homed _ c.in_err-check_also.ensures) c.from_residual.ensures.1

pub returns-in_err-check_conflicts : goal.returns-in_err-check_conflicts
returns-in_err-check_conflicts c =
    let net = net_of c.args.parts.now in
    halted net _ c.from_residual-in_err-check_conflicts.result (conflicts-fault net c.requires.homed c.in_ok-check_also.ensures _ c.in_err-check_conflicts.ensures) c.from_residual-in_err-check_conflicts.ensures.1

pub returns-in_err-check_yields : goal.returns-in_err-check_yields
returns-in_err-check_yields c =
    let net = net_of c.args.parts.now in
    halted net _ c.from_residual-in_err-check_yields.result (yields-fault net c.requires.homed c.in_ok-check_also.ensures c.in_ok-check_conflicts.ensures _ c.in_err-check_yields.ensures) c.from_residual-in_err-check_yields.ensures.1

pub returns : goal.returns
returns c =
    walks-last (net_of c.args.parts.now) c.requires.homed c.in_ok-check_also.ensures c.in_ok-check_conflicts.ensures c.in_ok-check_yields.ensures c.check_walks.result c.check_walks.ensures
