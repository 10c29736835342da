use Rattle.std.proofs.Common.{◌≡◌, ◌∙◌, List, length, ap, subst, sym, arith}
use Rattle.control_flow.proofs.RecallLaws.{length-recalled, ring-still}
use Rattle.phase_plan.specs.Phases.{IsRing}
use Rattle.phase_plan.specs.declared.Phase.{Phase}
use Rattle.net_parts.specs.Outline.{plan_at}
use Rattle.intersection_actor.specs.Commits.{is_recalled}
use Rattle.intersection_actor.proofs.recalls.recalled_plan.Goals as goal

pub with_any_marks-requires : goal.with_any_marks-requires
with_any_marks-requires c =
    let own : IsRing (plan_at c.args.net.now c.args.node) = subst IsRing c.plan.ensures.value c.count.ensures.ring in
    let same : length c.in_ok-phases.phases.items ≡ length (plan_at c.args.net.now c.args.node) =
    ap (λ (ps : List Phase). length ps) c.in_ok-phases.ensures ∙ length-recalled (plan_at c.args.net.now c.args.node) (is_recalled c.args.net.now c.args.node c.args.sensed.now c.args.recall) in
    omega (arith, same, own.count.1)

pub unreachable-requires : goal.unreachable-requires
unreachable-requires c =
    let own : IsRing (plan_at c.args.net.now c.args.node) = subst IsRing c.plan.ensures.value c.count.ensures.ring in
    c.in-Err.ensures.refused (subst IsRing (sym c.in_ok-phases.ensures) (ring-still (plan_at c.args.net.now c.args.node) (is_recalled c.args.net.now c.args.node c.args.sensed.now c.args.recall) own))
