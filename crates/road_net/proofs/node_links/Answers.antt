use Rattle.net_parts.specs.Parts.{net_of}
use Rattle.road_net.proofs.FirstFaults.{blamed, ends-fault}
use Rattle.road_net.proofs.Served.{served}
use Rattle.road_net.proofs.node_links.Goals as goal

pub returns-in_err-check_ends : goal.returns-in_err-check_ends
returns-in_err-check_ends c =
    let net = net_of c.args.parts.now in
    let first = ends-fault net _ c.as_slice-links.ensures.value _ c.in_err-check_ends.ensures in
    blamed c.args.parts.now _ c.from_residual.result first c.from_residual.ensures.1

pub check_joins-requires-clause-ends : goal.check_joins-requires-clause-ends
check_joins-requires-clause-ends c = rw c.as_slice-links.ensures.value at c.in_ok-check_ends.ensures

pub check_joins-requires-clause-entry : goal.check_joins-requires-clause-entry
check_joins-requires-clause-entry c = rw c.as_slice.ensures.value (rw (c.as_slice-links.ensures.value, c.len-nodes.ensures) at c.in_ok-entry.ensures)

pub returns-in_err-check_joins : goal.returns-in_err-check_joins
returns-in_err-check_joins c =
    blamed c.args.parts.now _ c.from_residual-in_err-check_joins.result c.in_err-check_joins.ensures c.from_residual-in_err-check_joins.ensures.1

pub returns : goal.returns
returns c =
    let joins = c.in_ok-check_joins.ensures in
    record {
      network = record { outline = c.requires; joins = joins; served = served (net_of c.args.parts.now) c.requires joins };
      entries = (rw (c.as_slice-links.ensures.value, c.len-nodes.ensures) at c.in_ok-entry.ensures);
      exits = (rw (c.as_slice-links.ensures.value, c.len-nodes.ensures) at c.in_ok-exit.ensures);
    }
