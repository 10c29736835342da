use Rattle.std.proofs.Common.{length, ap, subst, ◌∷◌, [], arith}
use Rattle.world_records.specs.Written.{Adds}
use Rattle.world_records.proofs.WrittenLaws.{adds-next, adds-numbers}
use Rattle.net_parts.specs.Outline.{plan_at}
use Rattle.waits.specs.Bounds.{phase_bounds}
use Rattle.waits.specs.declared.bounds.PhaseBounds.{PhaseBounds}
use Rattle.controller_jobs.specs.Bounds.{bound_record}
use Rattle.controller_jobs.proofs.bounds_text.write_node.Goals as goal

pub loop-phase-preserved : goal.loop-phase-preserved
loop-phase-preserved c =
    adds-next (λ k. bound_record c.args.net.now (phase_bounds c.args.net.now c.args.node k)) c.loop-phase.phase c.args.out.now c.loop-phase.out c.write_bounds.new.out c.loop-phase.invariant
    (subst (λ (b : PhaseBounds). Adds c.loop-phase.out c.write_bounds.new.out (bound_record c.args.net.now b ∷ [])) c.phase_bounds.ensures.value c.in_ok-write_bounds.ensures)

pub returns : goal.returns
returns c = adds-numbers (λ k. bound_record c.args.net.now (phase_bounds c.args.net.now c.args.node k)) c.loop-phase.phase (length (plan_at c.args.net.now c.args.node)) c.args.out.now c.loop-phase.out (omega (arith, ap length c.plan.ensures.value)) c.loop-phase.invariant
