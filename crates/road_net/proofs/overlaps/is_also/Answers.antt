use Rattle.std.proofs.Common.{◌≡◌, ◌∙◌, ◌<◌, sym, ap, length, arith, eq-eqb, None}
use Rattle.std.proofs.lemmas.Bool.{eqb-true}
use Rattle.std.proofs.lemmas.List.{get_or_default}
use Rattle.net_parts.specs.declared.roads.Link.{Link}
use Rattle.net_parts.specs.Numbers.{no_link}
use Rattle.net_parts.specs.Outline.{link_at}
use Rattle.net_parts.specs.Parts.{net_of}
use Rattle.road_net.proofs.Also.{nowhere-is, nowhere-none}
use Rattle.road_net.proofs.overlaps.is_also.Goals as goal

-- a link that ends at no node
pub returns-in-None : goal.returns-in-None
returns-in-None c =
    let net = net_of c.args.parts.now in
    let here : c.args.l < length c.args.parts.now.links.items = omega (arith, c.requires.link, c.requires.outline.road_count) in
    let ends : (link_at net c.args.l).to ≡ None = ap (λ (link : Link). link.to) (sym (c.index.ensures ∙ get_or_default c.args.parts.now.links.items c.args.l c.index.result.now no_link here)) ∙ c.in-None.is in
    ((λ none. nowhere-is net c.args.l (sym c.requires.times ∙ eqb-true c.args.times 0 none)), (λ is. eq-eqb c.args.times 0 (c.requires.times ∙ nowhere-none net c.args.l ends is)))
