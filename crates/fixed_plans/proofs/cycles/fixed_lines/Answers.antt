use Rattle.std.proofs.Common.{ap, ◌∙◌, arith}
use Rattle.fixed_plans.specs.Lines.{fixed_line}
use Rattle.fixed_plans.proofs.FixedWaits.{lines-wait}
use Rattle.fixed_plans.proofs.LineLaws.{line-at, lines-more, lines-push}
use Rattle.fixed_plans.proofs.cycles.fixed_lines.Goals as goal

pub loop-node-preserved : goal.loop-node-preserved
loop-node-preserved c =
    let line_of = fixed_line c.args.net.now c.args.plan.now in
    let is = c.in_ok-node_line.ensures.value ∙ ap (λ rows. fixed_line c.args.net.now rows c.loop-node.node) c.rows.ensures in (
      lines-push line_of c.loop-node.node c.in_ok-node_line.field-0 c.loop-node.lines.items c.push.new.self.items is c.in_ok-push.ensures.items c.loop-node.invariant.0,
      lines-more c.args.net.now line_of c.loop-node.node c.in_ok-node_line.field-0 is c.in_ok-node_line.ensures.lawful c.in_ok-node_line.ensures.end c.loop-node.invariant.1,
    )

pub returns-clause-lawful : goal.returns-clause-lawful
returns-clause-lawful c node below =
    (line-at c.args.net.now (fixed_line c.args.net.now c.args.plan.now) c.loop-node.node c.loop-node.lines.items c.loop-node.invariant.0 c.loop-node.invariant.1 node (omega (arith, below, c.loop-node-test.false, c.nodes-node-end.ensures.value))).lawful

pub returns-clause-end : goal.returns-clause-end
returns-clause-end c node below =
    (line-at c.args.net.now (fixed_line c.args.net.now c.args.plan.now) c.loop-node.node c.loop-node.lines.items c.loop-node.invariant.0 c.loop-node.invariant.1 node (omega (arith, below, c.loop-node-test.false, c.nodes-node-end.ensures.value))).end

pub returns-clause-waits : goal.returns-clause-waits
returns-clause-waits c =
    lines-wait c.args.net.now c.law_of_network.ensures c.args.plan.now c.requires c.loop-node.node (omega (arith, c.loop-node-test.false, c.nodes-node-end.ensures.value)) c.loop-node.lines.items c.loop-node.invariant.0 c.loop-node.invariant.1
