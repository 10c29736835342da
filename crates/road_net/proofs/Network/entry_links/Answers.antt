use Rattle.std.proofs.Common.{◌≡◌, length, ap, subst, arith}
use Rattle.road_net.specs.Network.{AreApart}
use Rattle.road_net.proofs.Apart.{apart}
use Rattle.road_net.specs.declared.joins.Side.TheVariants.{To}
use Rattle.road_net.proofs.AtSide.{links-at}
use Rattle.road_net.proofs.Network.entry_links.Goals as goal

pub returns-clause-links : goal.returns-clause-links
returns-clause-links c =
    let nodes : length c.self.inside.parts.node_names ≡ length c.args.self.now.node_names = ap (λ net. length net.node_names) c.self.view_is in
    links-at To c.self.inside.parts.links.items c.args.self.now.links (length c.self.inside.parts.node_names) c.args.node c.self.inside.entry_links.items c.index.result.now _ c.self.invariant.entries
    (ap (λ net. net.links) c.self.view_is) (omega (arith, nodes, c.requires)) c.index.ensures c.as_slice.ensures

pub returns-clause-apart : goal.returns-clause-apart
returns-clause-apart c = subst (λ net. AreApart net c.args.node) c.self.view_is (apart _ c.args.node c.self.invariant.network)
