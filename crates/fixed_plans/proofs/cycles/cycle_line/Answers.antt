use Rattle.std.proofs.Common.{subst, sym, ◌∙◌, ◌<◌, arith}
use Rattle.control_flow.specs.Greens.{IsLawful, end_of}
use Rattle.control_flow.proofs.OrderLaws.{order-lawful}
use Rattle.fixed_plans.proofs.CycleLaws.{few-rows, green-most, shown-at}
use Rattle.fixed_plans.proofs.LineLaws.{lead-of, line-begin, line-end, line-step, line-value}
use Rattle.fixed_plans.proofs.cycles.cycle_line.Goals as goal

pub nonzero_rem-lead : goal.nonzero_rem-lead
nonzero_rem-lead c =
    let lead = lead-of c.args.plan.now c.args.cycle.now c.count.ensures.ring c.requires.cycle c.cycle_length-length.result c.cycle_length-length.ensures.value in
    omega (arith, lead.whole, c.cycle_length-length.ensures.value)

pub loop-at-init : goal.loop-at-init
loop-at-init c =
    let lead = lead-of c.args.plan.now c.args.cycle.now c.count.ensures.ring c.requires.cycle c.cycle_length-length.result c.cycle_length-length.ensures.value in
    record {
      under = line-begin c.args.plan.now c.args.cycle.now c.count.ensures.ring c.requires.cycle _ _ _ c.new-rows.ensures.items lead.some (omega (arith, lead.whole, c.cycle_length-length.ensures.value));
      bound = omega arith;
    }

pub bounds-cycle-index : goal.bounds-cycle-index
bounds-cycle-index c = c.loop-at.invariant.under.place.below

pub offset_bounds-cycle-index : goal.offset_bounds-cycle-index
offset_bounds-cycle-index c = omega (arith, c.loop-at.invariant.under.place.below, few-rows c.args.plan.now c.args.cycle.now c.count.ensures.ring c.requires.cycle)

pub add_green-requires-clause-phase : goal.add_green-requires-clause-phase
add_green-requires-clause-phase c =
    let row = shown-at c.args.plan.now c.args.cycle.now c.count.ensures.ring c.requires.cycle c.loop-at.index c.loop-at.invariant.under.place.below in
    omega (arith, row.exists, c.count.ensures.ring.count.1)

pub add_green-requires-clause-green : goal.add_green-requires-clause-green
add_green-requires-clause-green c = green-most c.args.plan.now c.args.cycle.now c.count.ensures.ring c.requires.cycle c.loop-at.index c.loop-at.invariant.under.place.below

pub span-at-requires-clause-phase : goal.span-at-requires-clause-phase
span-at-requires-clause-phase c = (shown-at c.args.plan.now c.args.cycle.now c.count.ensures.ring c.requires.cycle c.loop-at.index c.loop-at.invariant.under.place.below).exists

pub span-at-requires-clause-green : goal.span-at-requires-clause-green
span-at-requires-clause-green c = green-most c.args.plan.now c.args.cycle.now c.count.ensures.ring c.requires.cycle c.loop-at.index c.loop-at.invariant.under.place.below

pub next_index-index-requires : goal.next_index-index-requires
next_index-index-requires c = c.loop-at.invariant.under.place.below

pub loop-at-preserved : goal.loop-at-preserved
loop-at-preserved c =
    let lead = lead-of c.args.plan.now c.args.cycle.now c.count.ensures.ring c.requires.cycle c.cycle_length-length.result c.cycle_length-length.ensures.value in
    record {
      under =
          line-step c.args.plan.now c.args.cycle.now c.count.ensures.ring c.requires.cycle _ _ c.loop-at.at c.loop-at.index c.next_index-index.result c.span-at.result c.loop-at.rows.items c.add_green.new.rows.items
          lead.is (omega (arith, lead.whole, c.cycle_length-length.ensures.value)) c.loop-at-test.true c.span-at.ensures.value c.next_index-index.ensures c.in_ok-add_green.ensures c.loop-at.invariant.under;
      bound = omega (arith, c.loop-at-test.true, c.span-at.ensures.bounds);
    }

pub from_rows-requires : goal.from_rows-requires
from_rows-requires c = order-lawful c.args.plan.now c.loop-at.rows.items c.count.ensures.ring c.loop-at.invariant.under.lawful

pub returns-clause-value : goal.returns-clause-value
returns-clause-value c =
    c.from_rows.ensures
    ∙ line-value c.args.plan.now c.args.cycle.now c.count.ensures.ring c.requires.cycle _ _ c.args.end c.loop-at.at c.loop-at.index c.loop-at.rows.items (omega (arith, c.cycle_length-length.ensures.value)) (omega (arith, c.loop-at-test.false)) c.loop-at.invariant.under

pub returns-clause-lawful : goal.returns-clause-lawful
returns-clause-lawful c = subst (IsLawful c.args.plan.now) (sym c.from_rows.ensures) c.loop-at.invariant.under.lawful

pub returns-clause-end : goal.returns-clause-end
returns-clause-end c =
    subst (λ l. c.args.end < end_of l) (sym c.from_rows.ensures)
    (line-end c.args.plan.now c.args.cycle.now c.count.ensures.ring c.requires.cycle _ _ c.args.end c.loop-at.at c.loop-at.index c.loop-at.rows.items (omega (arith, c.cycle_length-length.ensures.value)) (omega (arith, c.loop-at-test.false)) c.loop-at.invariant.under)
