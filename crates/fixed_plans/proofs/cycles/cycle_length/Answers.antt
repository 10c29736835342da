use Rattle.std.proofs.Common.{arith}
use Rattle.fixed_plans.proofs.CycleLaws.{green-most, shown-at, sums-most}
use Rattle.fixed_plans.proofs.cycles.cycle_length.Goals as goal

pub span-length-requires-clause-phase : goal.span-length-requires-clause-phase
span-length-requires-clause-phase c = (shown-at c.args.plan.now c.args.cycle.now c.count.ensures.ring c.requires c.loop-row.row-index c.loop-row-test.true).exists

pub span-length-requires-clause-green : goal.span-length-requires-clause-green
span-length-requires-clause-green c = green-most c.args.plan.now c.args.cycle.now c.count.ensures.ring c.requires c.loop-row.row-index c.loop-row-test.true

pub overflow_add-length : goal.overflow_add-length
overflow_add-length c = omega (arith, c.loop-row.invariant, sums-most c.args.plan.now c.args.cycle.now c.count.ensures.ring c.requires c.loop-row.row-index, c.span-length.ensures.bounds)

pub returns-clause-bounds : goal.returns-clause-bounds
returns-clause-bounds c = omega (arith, c.loop-row.invariant, sums-most c.args.plan.now c.args.cycle.now c.count.ensures.ring c.requires c.loop-row.row-index)
