use Rattle.std.proofs.Common.{◌+◌, subst, sym, ◌≡◌, ◌∙◌, ap}
use Rattle.intersection_actor.specs.Acting.{Acting, told_at, wanting}
use Rattle.intersection_actor.specs.Rounds.{IsOf}
use Rattle.intersection_actor.specs.declared.records.Want.{Want}
use Rattle.intersection_actor.specs.declared.records.Want.TheVariants.{Publish}
use Rattle.intersection_actor.specs.contracts.actors.Actor.{the_view}
use Rattle.intersection_actor.proofs.SettleLaws.{sent-of}
use Rattle.intersection_actor.proofs.TellLaws.{told-next}
use Rattle.intersection_actor.proofs.actors.Actor.sent.Goals as goal

pub returns-clause-of : goal.returns-clause-of
returns-clause-of c =
    subst (λ (want : Want). IsOf c.args.net.now (wanting want (the_view c.self.inside))) (sym c.next_told-self-inside.ensures.value)
    (sent-of c.args.net.now (the_view c.self.inside) c.in-Publish.link (c.in-Publish.link + 1) (subst (IsOf c.args.net.now) (sym c.self.view_is) c.requires.of) c.in-Publish.is)

pub returns-clause-tells : goal.returns-clause-tells
returns-clause-tells c =
    λ place at.
    let now : Publish c.in-Publish.link ≡ told_at c.args.net.now c.self.inside.node place =
    sym c.in-Publish.is ∙ ap (λ (a : Acting). a.want) c.self.view_is ∙ at ∙ ap (λ (a : Acting). told_at c.args.net.now a.node place) (sym c.self.view_is) in
    c.next_told-self-inside.ensures.value ∙ told-next c.args.net.now c.self.inside.node place c.in-Publish.link c.next_told-self-inside.ensures.rising now
    ∙ ap (λ (a : Acting). told_at c.args.net.now a.node (place + 1)) c.self.view_is
