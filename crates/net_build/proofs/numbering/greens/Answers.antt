use Rattle.std.proofs.Common.{◌∙◌, ap, sym, Err, Some}
use Rattle.std.proofs.lemmas.Result.{err_from_is_err_and}
use Rattle.net_parts.specs.Numbers.{phases_of, also_of}
use Rattle.foundation.proofs.EachLaws.{each-more}
use Rattle.net_parts.specs.Bounds.{IsBoundedNode}
use Rattle.net_build.proofs.FirstFaults.{IsUnknownAt-weaker}
use Rattle.net_build.proofs.Greens.{phase-parts}
use Rattle.foundation.proofs.FirstLaws.{FromOne-here}
use Rattle.net_parts.specs.FirstFaults.{IsKnownNode, IsUnknownInNode}
use Rattle.net_parts.proofs.Known.{nodes-known}
use Rattle.foundation.proofs.ListLaws.{All-at}
use Rattle.net_build.proofs.numbering.greens.Goals as goal

pub returns-in_err-lists : goal.returns-in_err-lists
returns-in_err-lists c =
    let p = err_from_is_err_and c.from_residual.result c.from_residual.ensures.1 in
    let names = c.args.names.now in
    let earlier = nodes-known names _ c.loop-index.serves.items c.loop-index.also.items c.loop-index.invariant.serves c.loop-index.invariant.also in
    rw (p.1 ∙ ap Err p.2) (IsUnknownAt-weaker _ _ c.in_err-lists.field-0.0
    (λ place why.
    (why.0, FromOne-here (IsKnownNode names) (λ n. IsUnknownInNode names n place.sub) c.args.nodes.now c.loop-index.index c.index-nodes-index.result place.item why.1 c.loop-index-test.true c.index-nodes-index.is earlier (rw c.as_slice.ensures at why.2)))
    c.in_err-lists.ensures)

pub links_of_phases-requires : goal.links_of_phases-requires
links_of_phases-requires c =
    let node = All-at IsBoundedNode c.args.nodes.now c.loop-index.index c.index-nodes-index.result c.loop-index-test.true c.index-nodes-index.is c.requires.bounds in
    rw c.as_slice.ensures node.own.count.1

pub loop-index-preserved : goal.loop-index-preserved
loop-index-preserved c =
    let parts = phase-parts _ _ _ (rw c.as_slice.ensures at c.in_ok-lists.ensures) in
    record {
      serves = rw c.in_ok-push.ensures.items (each-more (phases_of c.args.names.now) c.args.nodes.now c.loop-index.index c.index-nodes-index.result c.loop-index.serves.items c.from_vec.result c.loop-index-test.true c.index-nodes-index.is c.loop-index.invariant.serves (parts.0 ∙ ap Some (sym c.from_vec.ensures)));
      also = rw c.in_ok-push-2.ensures.items (each-more (also_of c.args.names.now) c.args.nodes.now c.loop-index.index c.index-nodes-index.result c.loop-index.also.items c.from_vec-in-loop-index.result c.loop-index-test.true c.index-nodes-index.is c.loop-index.invariant.also (parts.1 ∙ ap Some (sym c.from_vec-in-loop-index.ensures)));
    }
