use Rattle.std.proofs.Common.{refl}
use Rattle.net_parts.specs.declared.drafts.DraftNode.{DraftNode}
use Rattle.net_parts.proofs.Distinct.{names-twice, names-more}
use Rattle.net_build.proofs.numbering.add_node_names.Goals as goal

pub returns-then-not-branch : goal.returns-then-not-branch
returns-then-not-branch c =
    rw c.place.ensures (
      refl,
      refl,
      names-twice (λ (x : DraftNode). x.name) c.args.nodes.now c.loop-index.index c.index-nodes-index.result c.loop-index-test.true c.index-nodes-index.is c.loop-index.names c.as_str.result.now c.in_ok-add.field-0
          c.loop-index.invariant.same c.as_str.ensures c.in_ok-add.ensures.added _ refl c.if-not-branch.true c.loop-index.invariant.differ,
    )

pub loop-index-preserved : goal.loop-index-preserved
loop-index-preserved c =
    let (same, differ) = names-more (λ (x : DraftNode). x.name) c.args.nodes.now c.loop-index.index c.index-nodes-index.result c.loop-index-test.true c.index-nodes-index.is c.loop-index.names c.as_str.result.now c.in_ok-add.field-0
    c.loop-index.invariant.same c.as_str.ensures c.in_ok-add.ensures.added c.add.new.self c.if-not-branch.false c.in_ok-add.ensures.names c.loop-index.invariant.differ in
    record { same = same; differ = differ }
