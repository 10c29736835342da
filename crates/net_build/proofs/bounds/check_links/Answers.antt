use Rattle.std.proofs.Common.{◌∙◌, ap, Err}
use Rattle.std.proofs.lemmas.Result.{err_from_is_err_and}
use Rattle.net_parts.specs.Bounds.{IsBoundedLink}
use Rattle.net_parts.specs.FirstFaults.{IsLinkFault}
use Rattle.net_build.proofs.FirstFaults.{IsBoundAt-weaker}
use Rattle.foundation.proofs.FirstLaws.{FromOne-here}
use Rattle.foundation.proofs.ListLaws.{All-step, All-end}
use Rattle.net_build.proofs.bounds.check_links.Goals as goal

pub returns-in_err-check_link : goal.returns-in_err-check_link
returns-in_err-check_link c =
    let p = err_from_is_err_and c.from_residual.result c.from_residual.ensures.1 in
    rw (p.1 ∙ ap Err p.2) (IsBoundAt-weaker _ _ c.in_err-check_link.field-0.0
    (λ place why. FromOne-here IsBoundedLink (λ n. IsLinkFault n place.part place.sub) c.args.links.now c.loop-index.index c.index-links-index.result place.item why.0 c.loop-index-test.true c.index-links-index.is c.loop-index.invariant why.1)
    c.in_err-check_link.ensures)

pub loop-index-preserved : goal.loop-index-preserved
loop-index-preserved c =
    All-step IsBoundedLink c.args.links.now c.loop-index.index c.index-links-index.result c.loop-index-test.true c.index-links-index.is c.loop-index.invariant c.in_ok-check_link.ensures

pub returns : goal.returns
returns c = All-end IsBoundedLink c.args.links.now c.loop-index.index c.loop-index-test.false c.loop-index.invariant
