use Rattle.std.proofs.Common.{sym, refl, rules, ◌∙◌}
use Rattle.std.proofs.lemmas.Bool.{false≢true}
use Rattle.phase_plan.specs.Phases.{IsMarkedAt}
use Rattle.control_flow.proofs.MarkLaws.{all-of-range, each-of-range}
use Rattle.control_flow.proofs.lawful_rows.are_marked.Goals as goal

pub returns-then-not-is_marked : goal.returns-then-not-is_marked
returns-then-not-is_marked c = (
  (λ t. absurd (false≢true t)),
  (λ all. sym c.if-not-is_marked.true ∙ c.is_marked.ensures.1 (each-of-range (IsMarkedAt c.args.plan.now) c.args.low c.args.high all c.loop-phase.phase (search rules) (search rules))),
)

pub returns : goal.returns
returns c = ((λ t. all-of-range (IsMarkedAt c.args.plan.now) c.args.low c.args.high (λ k low high. c.loop-phase.invariant k low (search rules))), (λ all. refl))
