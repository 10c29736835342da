use Rattle.std.proofs.Common.{not, refl, sym, ap, ◌∙◌}
use Rattle.std.proofs.lemmas.List.{length-set}
use Rattle.std.specs.Option.{is_some}
use Rattle.net_parts.specs.declared.roads.Link.{Link}
use Rattle.net_parts.specs.Outline.{link_at}
use Rattle.spillback_world.proofs.Discharging.{discharge-in, some-of}
use Rattle.spillback_world.proofs.discharges.discharge_link.Goals as goal

pub returns : goal.returns
returns c =
    let net = c.args.site.now.net.now in
    let (node, to) = some-of (link_at net c.args.l).to (ap (λ (k : Link). is_some k.to) (sym c.link.ensures.value) ∙ c.is_none.ensures ∙ ap not c.if-is_none.false) in
    discharge-in net c.args.site.now.store.now c.args.site.now.rates.now c.args.l c.args.leaving.now c.args.queues.now c.args.entering.now c.args.held.now c.requires.links c.requires.held
    node c.amount_of-amount.result c.requires.link to c.amount_of-amount.ensures.value c.amount_of-amount.ensures.most c.amount_of-amount.ensures.fits _ _ _ _ refl refl
    (c.give.auto.entering ∙ c.requires.links.entering)
    (c.give.auto.held ∙ length-set c.args.held.now c.args.l _ ∙ c.requires.links.held) c.give.ensures.entering c.give.ensures.held
