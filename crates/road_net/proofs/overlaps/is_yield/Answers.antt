use Rattle.std.proofs.Common.{◌≡◌, ◌<◌, IsTrue, All, List, ℕ, [], length, sym, subst, ◌∙◌, arith}
use Rattle.std.proofs.lemmas.Bool.{true≢false}
use Rattle.std.proofs.lemmas.List.{get_or_default}
use Rattle.net_parts.specs.Outline.{yields_at}
use Rattle.net_parts.specs.Parts.{net_of}
use Rattle.road_net.specs.Joins.{GivesWay, IsYield}
use Rattle.road_net.proofs.overlaps.is_yield.Goals as goal

-- the link gives way to one to which it may not
pub returns-else-can_yield_to : goal.returns-else-can_yield_to
returns-else-can_yield_to c =
    let here : c.args.l < length c.args.parts.now.yields.items = omega (arith, c.requires.outline.yield_count, c.requires.link) in
    let same : c.as_slice-others.result.now ≡ yields_at (net_of c.args.parts.now) c.args.l =
    c.as_slice-others.ensures ∙ c.index.ensures ∙ get_or_default c.args.parts.now.yields.items c.args.l c.index.result.now [] here in
    (λ yes. absurd (true≢false (sym yes ∙ c.if-can_yield_to.false)), λ is. c.can_yield_to.ensures.1 (subst (All (GivesWay (net_of c.args.parts.now) c.args.l)) (sym same) is.each))
