use Rattle.std.proofs.Common.{◌≡◌, length, below_more, refl, ap, subst, arith}
use Rattle.std.specs.Option.{option_map}
use Rattle.phase_plan.specs.declared.Phase.{Phase}
use Rattle.schedule_meaning.specs.Instances.{Problem, IsInstance}
use Rattle.dp_certificate.specs.Prefixes.{stage_after}
use Rattle.dp_certificate.specs.Proves.{stage_of_entry}
use Rattle.dp_certificate.specs.NextEntry.{stage_of_next}
use Rattle.cert_checker.proofs.Closing.{closed-all, closed-at}
use Rattle.cert_checker.proofs.walk.open_phase.Goals as goal

pub loop-phase-preserved : goal.loop-phase-preserved
loop-phase-preserved g c = record {
  closed =
      below_more _ _ c.loop-phase.invariant.closed
      (closed-at c.args.c.now c.args.entry.now c.loop-phase.phase c.next_after-next.result
      (subst (λ p. option_map stage_of_next c.next_after-next.result ≡ stage_after p (stage_of_entry p c.args.entry.now) c.loop-phase.phase) c.instance-i.ensures c.next_after-next.ensures.value)
      (c.if-not-is_closed_by.ensures.0 refl));
  cost = omega (arith, c.loop-phase.invariant.cost, c.next_after-next.ensures.steps);
}

pub returns-clause-none : goal.returns-clause-none
returns-clause-none g c =
    closed-all c.args.c.now (subst IsInstance c.instance-i.ensures c.plan.ensures.instance) c.args.entry.now c.loop-phase.phase
    (omega (arith, c.count-phase-end.ensures.count, ap (length {A = Phase}) c.plan.ensures.value, ap (λ (p : Problem). length p.plan) c.instance-i.ensures))
    c.loop-phase.invariant.closed
