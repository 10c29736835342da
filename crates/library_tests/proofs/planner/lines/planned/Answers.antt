use Rattle.switch_rules.specs.Sequences.{counts_of}
use Rattle.control_flow.proofs.SequenceLaws.{listed-servings}
use Rattle.library_tests.proofs.planner.lines.planned.Goals as goal

pub timeline-requires-clause-servings : goal.timeline-requires-clause-servings
timeline-requires-clause-servings c =
    let i = c.plan.ensures.instance in
    let p = c.args.i.now in
    rw (c.plan.ensures.value, c.head-head.ensures.value, c.deref.ensures.value)
    (listed-servings p.plan p.lists i.plan i.lists i.clusters c.args.sequence.now (counts_of p.lists) p.head c.in-Ok.served.items i.head c.in-Ok.ensures.ok)
