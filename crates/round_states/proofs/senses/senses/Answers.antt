use Rattle.std.proofs.Common.{arith}
use Rattle.round_states.specs.Faults.{SensesFew}
use Rattle.round_states.specs.Texts.{sensed_in}
use Rattle.round_states.proofs.ByPlaceLaws.{each-below, map-step}
use Rattle.round_states.proofs.senses.senses.Goals as goal

pub loop-node-preserved : goal.loop-node-preserved
loop-node-preserved c = record {
  sensed = map-step (sensed_in c.args.net.now c.args.entries.now) 0 c.loop-node.node c.loop-node.node _ _ _ (omega arith) c.in_ok-push.ensures.items c.loop-node.invariant.sensed (rw c.in-Some.is at c.in_ok-sensed.ensures).0;
  few = each-below (SensesFew c.args.net.now c.args.entries.now) c.loop-node.node c.loop-node.invariant.few (rw c.in-Some.is at c.in_ok-sensed.ensures).1;
}
