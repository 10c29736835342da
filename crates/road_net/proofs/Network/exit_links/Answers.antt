use Rattle.std.proofs.Common.{◌≡◌, length, ap, arith}
use Rattle.road_net.specs.declared.joins.Side.TheVariants.{From}
use Rattle.road_net.proofs.AtSide.{links-at}
use Rattle.road_net.proofs.Network.exit_links.Goals as goal

pub returns-clause-links : goal.returns-clause-links
returns-clause-links c =
    let nodes : length c.self.inside.parts.node_names ≡ length c.args.self.now.node_names = ap (λ net. length net.node_names) c.self.view_is in
    links-at From c.self.inside.parts.links.items c.args.self.now.links (length c.self.inside.parts.node_names) c.args.node c.self.inside.exit_links.items c.index.result.now _ c.self.invariant.exits
    (ap (λ net. net.links) c.self.view_is) (omega (arith, nodes, c.requires)) c.index.ensures c.as_slice.ensures
