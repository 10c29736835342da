use Rattle.std.proofs.Common.{arith, refl}
use Rattle.net_core.proofs.Standing.{on-read, read-there}
use Rattle.net_core.proofs.stepping.read_board.Goals as goal

pub index-requires : goal.index-requires
index-requires g c =
    let (h, plans, i) = c.requires.playing in
    omega (arith, c.args.parts.now.boards.ok.0, read-there c.args.net.now c.law_of_network.ensures c.args.arrivals.now h plans c.args.parts.now i c.args.node c.requires.node c.args.link c.requires.want)

pub returns-clause-after : goal.returns-clause-after
returns-clause-after g c = λ h plans i.
    on-read c.args.net.now c.law_of_network.ensures c.args.arrivals.now h plans c.args.parts.now i c.args.node c.requires.node
    c.read.result c.args.link c.index.result.now c.index_mut.result.now c.read.new.actor c.requires.want c.index.ensures c.index_mut.ensures.value c.read.ensures.of c.read.ensures.read

pub returns-clause-one : goal.returns-clause-one
returns-clause-one g c = (c.read.new.actor, refl)
