use Rattle.std.proofs.Common.{ℕ, List, length, slice_index, sum_by, sym, ap, subst, ◌∙◌, arith}
use Rattle.std.proofs.lemmas.List.FromFn.{length-map-range_with_len}
use Rattle.net_parts.specs.Outline.{phase_links_at, plan_at}
use Rattle.actuated.specs.Rounds.{IsReady, IsRenewed}
use Rattle.actuated.proofs.Acting.{at-node, more-renewed}
use Rattle.actuated.proofs.renewing.renew_lines.Goals as goal

pub renew_line-requires-clause-calls : goal.renew_line-requires-clause-calls
renew_line-requires-clause-calls c =
    ap length (c.as_slice.ensures.value ∙ c.in_ok-list_calls.ensures)
    ∙ length-map-range_with_len (λ k. sum_by (slice_index c.args.near.now) (phase_links_at c.args.net.now c.loop-node.node k)) 0 (length (plan_at c.args.net.now c.loop-node.node))

pub renew_line-requires-clause-ready : goal.renew_line-requires-clause-ready
renew_line-requires-clause-ready c =
    let l = c.loop-node in
    let at = at-node l.lines.items l.node c.index_mut.result.now (omega (arith, c.loop-node-test.true, c.nodes-nodes.ensures.value, l.invariant.count, c.requires.count)) c.index_mut.ensures.value in
    subst (IsReady (plan_at c.args.net.now l.node) c.args.now) (sym (at ∙ l.invariant.rest l.node (omega arith)))
    (c.requires.ready l.node (omega (arith, c.loop-node-test.true, c.nodes-nodes.ensures.value)))

pub loop-node-preserved : goal.loop-node-preserved
loop-node-preserved c =
    let l = c.loop-node in
    let at = at-node l.lines.items l.node c.index_mut.result.now (omega (arith, c.loop-node-test.true, c.nodes-nodes.ensures.value, l.invariant.count, c.requires.count)) c.index_mut.ensures.value in
    more-renewed c.args.net.now c.args.near.now c.args.now l.node c.args.lines.items l.lines.items c.index_mut.result.now c.renew_line.new.line
    (omega (arith, c.loop-node-test.true, c.nodes-nodes.ensures.value, c.requires.count)) l.invariant at
    (subst (λ (cs : List ℕ). IsRenewed c.args.net.now cs c.args.now l.node c.index_mut.result.now c.renew_line.new.line) (c.as_slice.ensures.value ∙ c.in_ok-list_calls.ensures) c.in_ok-renew_line.ensures)
