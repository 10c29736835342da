use Rattle.std.proofs.Common.{◌+◌, subst, sym}
use Rattle.actuated.specs.Rounds.{AreFirstLines}
use Rattle.actuated.proofs.Acting.{more-first, none-first}
use Rattle.actuated.proofs.renewing.first_lines.Goals as goal

pub loop-node-init : goal.loop-node-init
loop-node-init c = none-first c.args.net.now _ c.in_ok-lines.ensures.items

pub loop-node-preserved : goal.loop-node-preserved
loop-node-preserved c =
    subst (AreFirstLines c.args.net.now (c.loop-node.node + 1)) (sym c.in_ok-push.ensures.items)
    (more-first c.args.net.now c.loop-node.node c.loop-node.lines.items c.in_ok-first_line.field-0 c.loop-node.invariant c.in_ok-first_line.ensures.value c.in_ok-first_line.ensures.ready)
