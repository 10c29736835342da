use Rattle.net_core.proofs.Standing.{on-begun, world-at}
use Rattle.net_core.proofs.stepping.begin_node.Goals as goal

pub begin-requires-clause-world : goal.begin-requires-clause-world
begin-requires-clause-world g c =
    let (h, plans, b) = c.requires.begins in
    world-at c.args.net.now c.law_of_network.ensures c.args.arrivals.now h plans c.args.parts.now c.args.node c.requires.node b c.requires.arrivals

pub returns-clause-begins : goal.returns-clause-begins
returns-clause-begins g c = λ h plans b.
    on-begun c.args.net.now c.law_of_network.ensures c.args.arrivals.now h plans c.args.parts.now c.args.node c.requires.node b
    c.begin.result c.index_mut.result.now c.begin.new.actor c.index_mut.ensures.value c.begin.ensures.of c.begin.ensures.begun
