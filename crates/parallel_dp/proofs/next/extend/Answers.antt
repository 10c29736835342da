use Rattle.std.proofs.Common.{ap, length, subst, arith}
use Rattle.parallel_dp.specs.Pieces.{AreLeastOf}
use Rattle.parallel_dp.proofs.NextLaws.{IsReachedWithin, all-phases, more-phases, servings-all, servings-more}
use Rattle.parallel_dp.proofs.next.extend.Goals as goal

pub loop-phase-preserved : goal.loop-phase-preserved
loop-phase-preserved g c = record {
  next = more-phases c.args.i.now c.args.piece.now c.loop-phase.phase c.loop-phase.next.items c.in_ok-by_phase.by_phase.items c.in_ok-next.next.items c.loop-phase.invariant.next c.in_ok-by_phase.ensures.next c.in_ok-next.ensures;
  steps = servings-more c.args.steps.now c.loop-phase.steps c.next_by.new.steps c.loop-phase.phase (length c.args.piece.now) c.loop-phase.invariant.steps c.next_by.ensures.servings;
}

pub returns-clause-next : goal.returns-clause-next
returns-clause-next g c =
    all-phases c.args.i.now c.plan.ensures.instance c.args.piece.now c.loop-phase.next.items
    (subst (λ n. AreLeastOf (IsReachedWithin c.args.i.now c.args.piece.now n) c.loop-phase.next.items) (omega (arith, ap length c.plan.ensures.value)) c.loop-phase.invariant.next)

pub returns-clause-servings : goal.returns-clause-servings
returns-clause-servings g c = servings-all c.args.steps.now c.loop-phase.steps c.loop-phase.phase (length c.args.i.now.plan) (length c.args.piece.now) c.loop-phase.invariant.steps (omega (arith, ap length c.plan.ensures.value))
