use Rattle.std.proofs.Common.{length, arith}
use Rattle.round_states.specs.Texts.{GoesOn, all_said, green_said}
use Rattle.round_states.proofs.ByPlaceLaws.{each-below, map-step, content-there}
use Rattle.round_states.proofs.lines.lines.Goals as goal

pub line-requires-clause-greens : goal.line-requires-clause-greens
line-requires-clause-greens c = content-there green_said c.args.entries.now (length c.args.net.now.node_names) c.args.content.now.greens.items _ c.loop-node.node _ c.requires.content.greens (omega arith) c.as_slice.ensures.value c.list_of-greens.ensures

pub loop-node-preserved : goal.loop-node-preserved
loop-node-preserved c = record {
  lines = map-step (all_said green_said c.args.entries.now) 0 c.loop-node.node c.loop-node.node _ _ _ (omega arith) c.in_ok-push.ensures.items c.loop-node.invariant.lines (rw c.in-Some.is at c.in_ok-line.ensures).0;
  on = each-below (GoesOn c.args.net.now c.args.asked c.args.entries.now) c.loop-node.node c.loop-node.invariant.on (rw c.in-Some.is at c.in_ok-line.ensures).1;
}
