use Rattle.std.proofs.Common.{◌∙◌, ap, sym, Err, Some}
use Rattle.std.proofs.lemmas.Result.{err_from_is_err_and}
use Rattle.foundation.proofs.EachLaws.{each-more}
use Rattle.net_parts.specs.declared.faults.Section.TheVariants.{Link, Turn}
use Rattle.net_parts.specs.Numbers.{link_of, turns_of, yields_of}
use Rattle.std.proofs.Common.{Contains, refl}
use Rattle.net_build.proofs.FirstFaults.{IsUnknownAt-weaker}
use Rattle.foundation.proofs.FirstLaws.{FromOne-here}
use Rattle.net_parts.specs.FirstFaults.{IsKnownLink, IsUnknownInLink}
use Rattle.net_parts.proofs.Known.{links-known, own-known}
use Rattle.foundation.proofs.ListLaws.{All-at}
use Rattle.net_parts.specs.declared.drafts.DraftLink.{DraftLink}
use Rattle.net_build.proofs.numbering.roads.Goals as goal

pub road-requires-clause-own : goal.road-requires-clause-own
road-requires-clause-own c =
    All-at (λ (l : DraftLink). Contains c.args.names.now.links.now l.name) c.args.links.now c.loop-index.index c.index-links-index.result c.loop-index-test.true c.index-links-index.is c.requires.own

pub returns-in_err-road : goal.returns-in_err-road
returns-in_err-road c =
    let p = err_from_is_err_and c.from_residual.result c.from_residual.ensures.1 in
    let nodes = c.args.names.now.nodes.now in
    let links = c.args.names.now.links.now in
    let earlier = links-known links nodes c.args.names.now.phase_links.now _ c.loop-index.roads.items c.loop-index.lists.items c.loop-index.given.items c.loop-index.invariant.roads c.loop-index.invariant.turns c.loop-index.invariant.yields in
    rw (p.1 ∙ ap Err p.2) (IsUnknownAt-weaker _ _ c.in_err-road.field-0.0
    (λ place why.
    rw (why.0 ∙ c.place-place.ensures) (FromOne-here (IsKnownLink nodes links) (λ l. IsUnknownInLink nodes links l Link 0) c.args.links.now c.loop-index.index c.index-links-index.result _ refl c.loop-index-test.true c.index-links-index.is earlier (refl, λ known. why.1 known.ends)))
    c.in_err-road.ensures)

pub returns-in_err-yields : goal.returns-in_err-yields
returns-in_err-yields c =
    let p = err_from_is_err_and c.from_residual-in_err-yields.result c.from_residual-in_err-yields.ensures.1 in
    let nodes = c.args.names.now.nodes.now in
    let links = c.args.names.now.links.now in
    let earlier = links-known links nodes c.args.names.now.phase_links.now _ c.loop-index.roads.items c.loop-index.lists.items c.loop-index.given.items c.loop-index.invariant.roads c.loop-index.invariant.turns c.loop-index.invariant.yields in
    rw (p.1 ∙ ap Err p.2) (IsUnknownAt-weaker _ _ c.in_err-yields.field-0.0
    (λ place why.
    rw (why.0 ∙ c.place-place.ensures) (FromOne-here (IsKnownLink nodes links) (λ l. IsUnknownInLink nodes links l Link 0) c.args.links.now c.loop-index.index c.index-links-index.result _ refl c.loop-index-test.true c.index-links-index.is earlier (refl, λ known. why.1 known.yields)))
    c.in_err-yields.ensures)

pub returns-in_err-turns : goal.returns-in_err-turns
returns-in_err-turns c =
    let p = err_from_is_err_and c.from_residual-in_err-turns.result c.from_residual-in_err-turns.ensures.1 in
    let nodes = c.args.names.now.nodes.now in
    let links = c.args.names.now.links.now in
    let phase_links = c.args.names.now.phase_links.now in
    let earlier = links-known links nodes phase_links _ c.loop-index.roads.items c.loop-index.lists.items c.loop-index.given.items c.loop-index.invariant.roads c.loop-index.invariant.turns c.loop-index.invariant.yields in
    let own = own-known links nodes phase_links c.index-links-index.result c.in_ok-road.road c.in_ok-yields.yields.items c.in_ok-road.ensures c.in_ok-yields.ensures in
    rw (p.1 ∙ ap Err p.2) (IsUnknownAt-weaker _ _ c.in_err-turns.field-0.0
    (λ place why.
    rw why.0 (FromOne-here (IsKnownLink nodes links) (λ l. IsUnknownInLink nodes links l Turn place.sub) c.args.links.now c.loop-index.index c.index-links-index.result place.item why.1 c.loop-index-test.true c.index-links-index.is earlier (own, rw c.as_slice.ensures at why.2)))
    c.in_err-turns.ensures)

pub loop-index-preserved : goal.loop-index-preserved
loop-index-preserved c =
    let names = c.args.names.now in
    record {
      roads = rw c.in_ok-push.ensures.items (each-more (link_of names.nodes.now names.links.now names.phase_links.now) c.args.links.now c.loop-index.index c.index-links-index.result c.loop-index.roads.items c.in_ok-road.road c.loop-index-test.true c.index-links-index.is c.loop-index.invariant.roads c.in_ok-road.ensures);
      turns = rw c.in_ok-push-2.ensures.items (each-more (turns_of names.links.now) c.args.links.now c.loop-index.index c.index-links-index.result c.loop-index.lists.items c.from_vec.result c.loop-index-test.true c.index-links-index.is c.loop-index.invariant.turns ((rw c.as_slice.ensures at c.in_ok-turns.ensures) ∙ ap Some (sym c.from_vec.ensures)));
      yields = rw c.in_ok-push-3.ensures.items (each-more (yields_of names.links.now) c.args.links.now c.loop-index.index c.index-links-index.result c.loop-index.given.items c.from_vec-in-loop-index.result c.loop-index-test.true c.index-links-index.is c.loop-index.invariant.yields (c.in_ok-yields.ensures ∙ ap Some (sym c.from_vec-in-loop-index.ensures)));
    }
