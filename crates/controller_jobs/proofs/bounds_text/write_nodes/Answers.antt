use Rattle.std.proofs.Common.{length, arith}
use Rattle.world_records.proofs.WrittenLaws.{adds-part, adds-parts}
use Rattle.controller_jobs.specs.Bounds.{bound_records}
use Rattle.controller_jobs.proofs.bounds_text.write_nodes.Goals as goal

pub loop-node-preserved : goal.loop-node-preserved
loop-node-preserved c = adds-part (bound_records c.args.net.now) c.loop-node.node c.args.out.now c.loop-node.out c.write_node.new.out c.loop-node.invariant c.in_ok-write_node.ensures

pub returns : goal.returns
returns c = adds-parts (bound_records c.args.net.now) c.loop-node.node (length c.args.net.now.node_names) c.args.out.now c.loop-node.out (omega arith) c.loop-node.invariant
