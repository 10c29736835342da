use Rattle.std.proofs.Common.{◌≡◌, ℕ, ◌<◌, List, length, subst, sym, ap, ◌∙◌, arith}
use Rattle.phase_plan.specs.Phases.{IsMarkedAt, IsRing, is_unmarked_at, next_phase}
use Rattle.phase_plan.specs.declared.Phase.{Phase}
use Rattle.phase_plan.proofs.RingLaws.{IsFirstUp, first-up, passes-marked}
use Rattle.phase_plan.proofs.PhasePlan.next.Goals as goal

next_up : (phases plan : List Phase) (s k : ℕ) → IsRing plan → s < length plan → phases ≡ plan → k ≡ next_phase phases s → IsFirstUp (IsMarkedAt plan) plan s k
next_up phases plan s k p h same e =
    subst (IsFirstUp (IsMarkedAt plan) plan s) (sym (e ∙ ap (λ (ps : List Phase). next_phase ps s) same)) (first-up plan (is_unmarked_at plan) s p (passes-marked plan) h)

pub overflow_cast-result : goal.overflow_cast-result
overflow_cast-result c =
    let ring = subst IsRing c.self.view_is c.self.invariant.0 in
    omega (arith, ring.count, (next_up _ c.args.self.now c.args.s c.next_phase.result ring c.requires (c.deref.ensures.value ∙ c.self.view_is) c.next_phase.ensures).below)

pub returns-clause-bounds : goal.returns-clause-bounds
returns-clause-bounds c =
    (next_up _ c.args.self.now c.args.s c.next_phase.result (subst IsRing c.self.view_is c.self.invariant.0) c.requires (c.deref.ensures.value ∙ c.self.view_is) c.next_phase.ensures).below

pub returns-clause-passed : goal.returns-clause-passed
returns-clause-passed c =
    (next_up _ c.args.self.now c.args.s c.next_phase.result (subst IsRing c.self.view_is c.self.invariant.0) c.requires (c.deref.ensures.value ∙ c.self.view_is) c.next_phase.ensures).passed
