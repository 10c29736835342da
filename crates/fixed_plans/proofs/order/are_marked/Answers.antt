use Rattle.std.proofs.Common.{sym, refl, ap, rules, ◌∙◌}
use Rattle.std.proofs.lemmas.Bool.{false≢true}
use Rattle.phase_plan.specs.Phases.{IsMarkedAt}
use Rattle.phase_plan.specs.declared.Phase.{Phase}
use Rattle.control_flow.proofs.MarkLaws.{all-of-range, each-of-range}
use Rattle.fixed_plans.proofs.order.are_marked.Goals as goal

pub returns : goal.returns
returns c = ((λ t. all-of-range (IsMarkedAt c.args.plan.now) c.args.low c.args.high (λ k low high. c.loop-phase.invariant k low (search rules))), (λ all. refl))

pub returns-then-not-phase : goal.returns-then-not-phase
returns-then-not-phase c = (
  (λ t. absurd (false≢true t)),
  (λ all. sym c.if-not-phase.true ∙ ap (λ (p : Phase). p.skip) c.phase.ensures.value ∙ each-of-range (IsMarkedAt c.args.plan.now) c.args.low c.args.high all c.loop-phase.phase (search rules) (search rules)),
)
