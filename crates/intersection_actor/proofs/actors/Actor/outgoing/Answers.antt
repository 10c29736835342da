use Rattle.std.proofs.Common.{Contains, ap, subst, sym, ◌∙◌}
use Rattle.road_net.specs.Network.{exit_links}
use Rattle.intersection_actor.specs.Acting.{Acting}
use Rattle.intersection_actor.proofs.SettleLaws.{telling-of, told-exit}
use Rattle.intersection_actor.proofs.actors.Actor.outgoing.Goals as goal

pub forecast-requires-clause-exit : goal.forecast-requires-clause-exit
forecast-requires-clause-exit c =
    let tells = telling-of c.args.net.now c.args.self.now c.in-Publish.link c.requires.of (sym (ap (λ (a : Acting). a.want) c.self.view_is) ∙ c.in-Publish.is) in
    subst (λ (a : Acting). Contains (exit_links c.args.net.now a.node) c.in-Publish.link) (sym c.self.view_is) (told-exit c.args.net.now c.args.self.now.node c.in-Publish.link tells.link)
