use Rattle.std.proofs.Common.{◌∙◌, sym}
use Rattle.std.proofs.lemmas.Bool.{false≢true}
use Rattle.net_parts.specs.Parts.{net_of}
use Rattle.road_net.proofs.Also.{own-few, own-all, own-is}
use Rattle.road_net.proofs.overlaps.is_also_there.Goals as goal

pub are_all-own-requires : goal.are_all-own-requires
are_all-own-requires c = own-few (net_of c.args.parts.now) c.requires.outline c.args.l c.args.node c.requires.link c.requires.node c.args.times c.requires.times _ _ c.as_slice.ensures c.index.ensures

pub returns-then-own : goal.returns-then-own
returns-then-own c =
    let net = net_of c.args.parts.now in
    let all = c.are_all-own.ensures.0 c.if-own.true in
    ((λ each. own-is net c.requires.outline c.args.l c.args.node c.requires.link c.requires.node c.args.times c.requires.times _ _ c.as_slice.ensures c.index.ensures all (c.is_also_at-each.ensures.0 each)), (λ is. c.is_also_at-each.ensures.1 (λ k. is c.args.node k)))

pub returns-else-own : goal.returns-else-own
returns-else-own c =
    let net = net_of c.args.parts.now in (
      (λ own. absurd (false≢true (sym c.if-own.false ∙ own))),
      (λ is. c.are_all-own.ensures.1 (own-all net c.requires.outline c.args.l c.args.node c.requires.link c.requires.node c.args.times c.requires.times _ _ c.as_slice.ensures c.index.ensures is)),
    )
