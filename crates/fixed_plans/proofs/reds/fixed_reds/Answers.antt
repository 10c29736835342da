use Rattle.std.proofs.Common.{List, [], sym, ap, subst, ◌∙◌}
use Rattle.fixed_plans.specs.Cycles.{IsCycle}
use Rattle.fixed_plans.specs.Reds.{cycle_red, fixed_red}
use Rattle.fixed_plans.specs.Lines.{rows_of}
use Rattle.fixed_plans.specs.Rows.{IsFixedPlan}
use Rattle.fixed_plans.specs.declared.rows.FixedRow.{FixedRow}
use Rattle.fixed_plans.proofs.LineLaws.{own-cycle}
use Rattle.net_parts.specs.Outline.{plan_at}
use Rattle.phase_plan.specs.declared.Phase.{Phase}
use Rattle.waits.proofs.TableLaws.{map-more}
use Rattle.fixed_plans.proofs.reds.fixed_reds.Goals as goal

pub cycle_red-requires : goal.cycle_red-requires
cycle_red-requires c =
    subst (IsCycle c.plan-phases.result.now) (sym (c.as_slice.ensures.value ∙ c.in_ok-cycle.ensures))
    (subst (λ (p : List Phase). IsCycle p (rows_of c.rows.result.now c.args.node)) (sym c.plan-phases.ensures.value)
    (own-cycle c.args.net.now c.plan-phases.ensures.network c.rows.result.now c.args.node c.requires.node (subst (IsFixedPlan c.args.net.now) (sym c.rows.ensures) c.requires.plan)))

pub loop-phase-preserved : goal.loop-phase-preserved
loop-phase-preserved c =
    let rows = c.as_slice.ensures.value ∙ c.in_ok-cycle.ensures ∙ ap (λ (r : List FixedRow). rows_of r c.args.node) c.rows.ensures in
    let own = c.cycle_red.ensures ∙ ap (λ (p : List Phase). cycle_red p c.as_slice.result.now c.loop-phase.phase) c.plan-phases.ensures.value
    ∙ ap (λ (r : List FixedRow). cycle_red (plan_at c.args.net.now c.args.node) r c.loop-phase.phase) rows in
    map-more (fixed_red c.args.net.now c.args.plan.now c.args.node) c.loop-phase.phase [] c.loop-phase.reds.items c.push.new.self.items c.cycle_red.result c.loop-phase.invariant c.in_ok-push.ensures.items own
