use Rattle.std.proofs.Common.{arith, refl}
use Rattle.net_core.proofs.Standing.{on-told, tell-there}
use Rattle.net_core.proofs.stepping.tell_board.Goals as goal

pub index_mut-requires : goal.index_mut-requires
index_mut-requires c =
    let (h, plans, i) = c.requires.playing in
    let (there, room) = tell-there c.args.net.now c.law_of_network.ensures c.args.arrivals.now h plans c.args.parts.now i c.args.node c.requires.node c.args.link c.requires.want in
    omega (arith, c.args.parts.now.boards.ok.0, there)

pub tell-requires-clause-below : goal.tell-requires-clause-below
tell-requires-clause-below c =
    let (h, plans, i) = c.requires.playing in
    (tell-there c.args.net.now c.law_of_network.ensures c.args.arrivals.now h plans c.args.parts.now i c.args.node c.requires.node c.args.link c.requires.want).1 c.index_mut.result.now c.index_mut.ensures.value

pub returns-clause-after : goal.returns-clause-after
returns-clause-after c = λ h plans i.
    on-told c.args.net.now c.law_of_network.ensures c.args.arrivals.now h plans c.args.parts.now i c.args.node c.requires.node
    c.tell.result c.args.link c.index_mut.result.now c.tell.new.board c.index_mut-2.result.now c.tell.new.actor c.requires.want c.index_mut.ensures.value c.index_mut-2.ensures.value c.tell.ensures.of c.tell.ensures.told c.tell.ensures.version c.tell.ensures.forecast

pub returns-clause-one : goal.returns-clause-one
returns-clause-one c = (c.tell.new.actor, refl)
