use Rattle.waits.specs.Bounds.{node_bounds}
use Rattle.waits.proofs.TableLaws.{flat-more}
use Rattle.waits.proofs.bounds.network_bounds.Goals as goal

pub loop-node-preserved : goal.loop-node-preserved
loop-node-preserved c = flat-more (node_bounds c.args.net.now) c.loop-node.node c.loop-node.bounds.items c.push_node_bounds.new.bounds.items c.loop-node.invariant c.in_ok-push_node_bounds.ensures
