use Rattle.std.proofs.Common.{◌+◌, subst, sym}
use Rattle.runs.specs.Resting.{AreNew}
use Rattle.runs.proofs.Resting.{new-more, new-none}
use Rattle.runs.proofs.network_actors.actors_of.Goals as goal

pub loop-node-init : goal.loop-node-init
loop-node-init c = new-none c.args.net.now _ c.in_ok-all.ensures.items

pub loop-node-preserved : goal.loop-node-preserved
loop-node-preserved c =
    subst (AreNew c.args.net.now (c.loop-node.node + 1)) (sym c.in_ok-push.ensures.items)
    (new-more c.args.net.now c.loop-node.node c.loop-node.all.items c.in_ok-new.field-0 c.loop-node.invariant c.in_ok-new.ensures.new c.in_ok-new.ensures.of)
