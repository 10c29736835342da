use Rattle.std.proofs.Common.{sym, subst, ◌∙◌}
use Rattle.control_flow.specs.Greens.{IsInOrder}
use Rattle.control_flow.proofs.OrderLaws.{answered-order, answered-spliced}
use Rattle.control_flow.proofs.SpliceLaws.{answered-continued}
use Rattle.control_flow.proofs.greens.Timeline.splice.Goals as goal

pub invariant_of-self : goal.invariant_of-self
invariant_of-self c =
    answered-order c.replace.result c.args.self.now c.args.next c.replace.new.rows.items c.self.inside.rows.items c.deref.result.now (sym c.self.view_is) (c.deref.ensures.value ∙ c.next.view_is) c.self.invariant
    (subst IsInOrder c.next.view_is c.next.invariant) c.requires c.replace.ensures.ok c.replace.ensures.refused

pub returns-clause-law : goal.returns-clause-law
returns-clause-law c = λ plan now head p lawful e next begin.
    answered-continued c.replace.result plan c.args.self.now c.args.next c.replace.new.rows.items now head p lawful e next begin
    (answered-spliced c.replace.result c.args.self.now c.args.next c.replace.new.rows.items c.self.inside.rows.items c.deref.result.now (sym c.self.view_is) (c.deref.ensures.value ∙ c.next.view_is) c.replace.ensures.ok)
