use Rattle.std.proofs.Common.{subst, sym, ◌∙◌, ap}
use Rattle.phase_plan.specs.Phases.{IsRing}
use Rattle.net_parts.specs.Outline.{plan_at}
use Rattle.intersection_actor.specs.Acting.{Acting, told_at}
use Rattle.intersection_actor.specs.Rounds.{IsCommitted, IsOf, KeepsPast}
use Rattle.intersection_actor.specs.contracts.actors.Actor.{the_view}
use Rattle.intersection_actor.specs.declared.planning.Kept.{Kept}
use Rattle.intersection_actor.proofs.SettleLaws.{commits, keeps, settled_by, still}
use Rattle.intersection_actor.proofs.TellLaws.{told-first}
use Rattle.intersection_actor.proofs.actors.Actor.settle.Goals as goal

pub returns-clause-ok : goal.returns-clause-ok
returns-clause-ok c =
    let a = the_view c.self.inside in
    subst (λ (k : Kept). IsCommitted c.args.net.now c.args.self.now (settled_by a k c.keep_plan.new.line c.keep_plan.new.records.items c.next_told-want.result)) (sym c.in_ok-kept.ensures.kept)
    (commits c.args.net.now a c.args.self.now c.args.plan c.keep_plan.new.line c.keep_plan.new.records.items c.next_told-want.result c.self.view_is c.requires.of c.requires.want c.requires.planned
    c.in_ok-kept.ensures.line c.in_ok-kept.ensures.records c.next_told-want.ensures.value)

pub returns-clause-kept : goal.returns-clause-kept
returns-clause-kept c =
    let a = the_view c.self.inside in
    subst (λ (k : Kept). KeepsPast c.args.net.now c.args.self.now (settled_by a k c.keep_plan.new.line c.keep_plan.new.records.items c.next_told-want.result)) (sym c.in_ok-kept.ensures.kept)
    (keeps c.args.net.now a c.args.self.now c.args.plan c.keep_plan.new.line c.keep_plan.new.records.items c.next_told-want.result c.self.view_is c.requires.of c.requires.want c.requires.planned
    c.plan.ensures.network
    (λ head. c.in_ok-kept.ensures.law (plan_at c.args.net.now c.self.inside.node) c.self.inside.sensed.now head (subst IsRing c.plan.ensures.value c.count.ensures.ring)))

pub returns-clause-of : goal.returns-clause-of
returns-clause-of c =
    let a = the_view c.self.inside in
    subst (λ (k : Kept). IsOf c.args.net.now (settled_by a k c.keep_plan.new.line c.keep_plan.new.records.items c.next_told-want.result)) (sym c.in_ok-kept.ensures.kept)
    (still c.args.net.now a c.args.self.now c.args.plan c.keep_plan.new.line c.keep_plan.new.records.items c.next_told-want.result c.self.view_is c.requires.of c.requires.want c.requires.planned
    c.plan.ensures.network
    (λ head. c.in_ok-kept.ensures.law (plan_at c.args.net.now c.self.inside.node) c.self.inside.sensed.now head (subst IsRing c.plan.ensures.value c.count.ensures.ring))
    c.next_told-want.ensures.value)

pub returns-clause-tells : goal.returns-clause-tells
returns-clause-tells c =
    c.next_told-want.ensures.value ∙ told-first c.args.net.now c.self.inside.node ∙ ap (λ (a : Acting). told_at c.args.net.now a.node 0) c.self.view_is
