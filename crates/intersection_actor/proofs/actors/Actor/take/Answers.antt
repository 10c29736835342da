use Rattle.std.proofs.Common.{rules, ◌≡◌, drop, length, ap, sym, refl, ◌∙◌, subst}
use Rattle.intersection_actor.specs.Acting.{reading, with_heard}
use Rattle.intersection_actor.specs.Rounds.{IsOf}
use Rattle.intersection_actor.specs.contracts.actors.Actor.{the_view}
use Rattle.intersection_actor.proofs.RoundLaws.{heard-of, taken}
use Rattle.intersection_actor.proofs.actors.Actor.take.Goals as goal

pub returns-clause-ok : goal.returns-clause-ok
returns-clause-ok c =
    let wants : c.next_read-self-inside.result ≡ reading (drop (length c.push.new.self.items) c.self.inside.reads.items) = search rules in
    taken (the_view c.self.inside) c.self.inside.reads.items c.args.heard c.push.new.self.items c.next_read-self-inside.result refl c.in_ok-push.ensures.items wants
    ∙ ap (with_heard c.args.heard) c.self.view_is

pub returns-clause-of : goal.returns-clause-of
returns-clause-of c = λ net is. subst (IsOf net) (sym (returns-clause-ok c)) (heard-of net c.args.self.now c.args.heard c.requires is)
