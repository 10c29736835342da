use Rattle.std.proofs.Common.{subst}
use Rattle.net_parts.specs.Numbers.{no_link}
use Rattle.road_net.specs.Stored.{IsPushedAt}
use Rattle.road_net.proofs.Ends.{by_node-more}
use Rattle.road_net.proofs.joins.links_by_node.Goals as goal

pub loop-index-preserved : goal.loop-index-preserved
loop-index-preserved c =
    by_node-more c.args.side c.args.links.now c.loop-index.index no_link c.args.nodes c.loop-index.lists.items c.push_at.new.lists.items c.loop-index-test.true c.loop-index.invariant
    (subst (λ node. IsPushedAt node c.loop-index.index c.loop-index.lists.items c.push_at.new.lists.items) c.node_at.ensures c.in_ok-push_at.ensures)
