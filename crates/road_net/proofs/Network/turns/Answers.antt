use Rattle.std.proofs.Common.{subst, arith}
use Rattle.road_net.specs.Network.{IsNetwork}
use Rattle.road_net.proofs.PartsAtMost.{parts}
use Rattle.road_net.proofs.Network.turns.Goals as goal

pub returns-clause-parts : goal.returns-clause-parts
returns-clause-parts c =
    let network : IsNetwork c.args.self.now = subst IsNetwork c.self.view_is c.self.invariant.network in
    parts c.args.self.now.links _ _ (network.joins.shares c.args.l (omega (arith, network.outline.road_count)))
