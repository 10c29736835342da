use Rattle.std.proofs.Common.{◌∙◌, ap, Err}
use Rattle.std.proofs.lemmas.Result.{err_from_is_err_and}
use Rattle.net_parts.specs.Bounds.{IsBoundedNode}
use Rattle.net_parts.specs.FirstFaults.{IsNodeFault}
use Rattle.net_build.proofs.FirstFaults.{IsBoundAt-weaker}
use Rattle.foundation.proofs.FirstLaws.{FromOne-here}
use Rattle.foundation.proofs.ListLaws.{All-step, All-end}
use Rattle.net_build.proofs.bounds.check_nodes.Goals as goal

pub returns-in_err-check_node : goal.returns-in_err-check_node
returns-in_err-check_node c =
    let p = err_from_is_err_and c.from_residual.result c.from_residual.ensures.1 in
    rw (p.1 ∙ ap Err p.2) (IsBoundAt-weaker _ _ c.in_err-check_node.field-0.0
    (λ place why. FromOne-here IsBoundedNode (λ n. IsNodeFault n place.part place.sub) c.args.nodes.now c.loop-index.index c.index-nodes-index.result place.item why.0 c.loop-index-test.true c.index-nodes-index.is c.loop-index.invariant why.1)
    c.in_err-check_node.ensures)

pub loop-index-preserved : goal.loop-index-preserved
loop-index-preserved c =
    All-step IsBoundedNode c.args.nodes.now c.loop-index.index c.index-nodes-index.result c.loop-index-test.true c.index-nodes-index.is c.loop-index.invariant c.in_ok-check_node.ensures

pub returns : goal.returns
returns c = All-end IsBoundedNode c.args.nodes.now c.loop-index.index c.loop-index-test.false c.loop-index.invariant
