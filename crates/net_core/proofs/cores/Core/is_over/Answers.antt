use Rattle.std.proofs.Common.{◌≡◌, false, IsTrue, nat_eq, subst, ap}
use Rattle.histories.specs.Histories.{IsLawful}
use Rattle.net_parts.specs.declared.drafts.Run.{Run}
use Rattle.net_core.specs.Cores.{Course}
use Rattle.net_core.proofs.Turns.{over-decides}
use Rattle.net_core.proofs.cores.Core.is_over.Goals as goal

pub returns-then-not-self : goal.returns-then-not-self
returns-then-not-self c =
    subst
    (λ (course : Course). (IsTrue (nat_eq c.self.inside.parts.round c.run-rounds.result.rounds) → (course.spent ≡ false) × IsLawful course.net course.steps) × ((course.spent ≡ false) × IsLawful course.net course.steps → IsTrue (nat_eq c.self.inside.parts.round c.run-rounds.result.rounds)))
    c.self.view_is
    (over-decides c.self.inside.net.now c.run-rounds.ensures.network c.self.inside.arrivals.now c.self.inside.parts c.self.inside.kept c.self.inside.spent c.self.invariant.sound c.if-not-self.true c.run-rounds.result.rounds (ap (λ (r : Run). r.rounds) c.run-rounds.ensures.value))
