use Rattle.std.proofs.Common.{[], length, arith}
use Rattle.road_net.proofs.Everywhere.{everywhere}
use Rattle.road_net.proofs.PartsAtMost.{split-most, shares-most}
use Rattle.road_net.proofs.Shares.{parts_of_link}
use Rattle.road_net.proofs.Network.split.Goals as goal

pub returns-clause-whole : goal.returns-clause-whole
returns-clause-whole c = λ ends. parts_of_link c.args.self.now.links _ c.args.amount _ (c.turns.ensures.network.joins.shares c.args.l (omega (arith, c.turns.ensures.network.outline.road_count))) ends

pub returns-clause-bounds : goal.returns-clause-bounds
returns-clause-bounds c =
    let table = c.turns.ensures.network.joins.shares c.args.l (omega (arith, c.turns.ensures.network.outline.road_count)) in
    rw c.split.ensures (split-most c.turns.result.now c.args.amount c.args.exit (rw c.turns.ensures.value (shares-most _ _ _ table)))

pub returns-clause-everywhere : goal.returns-clause-everywhere
returns-clause-everywhere c =
    let network = c.turns.ensures.network in
    λ ends. everywhere c.args.self.now.links _ (length c.args.self.now.link_names) c.args.amount _ (network.outline.turns c.args.l [] (omega (arith, network.outline.turn_count))) (network.joins.shares c.args.l (omega (arith, network.outline.road_count))) ends
