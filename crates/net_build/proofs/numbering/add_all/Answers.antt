use Rattle.std.proofs.Common.{Err, ap, ◌∙◌}
use Rattle.std.proofs.lemmas.Result.{err_from_is_err_and}
use Rattle.net_build.proofs.FirstFaults.{FailsNumbers-twice}
use Rattle.net_build.proofs.Stages.{fails-after, made-after, names-after}
use Rattle.net_build.proofs.numbering.add_all.Goals as goal

pub returns-in_err-add_node_names-clause-first : goal.returns-in_err-add_node_names-clause-first
returns-in_err-add_node_names-clause-first c =
    let p = err_from_is_err_and c.from_residual.result c.from_residual.ensures.1 in
    rw (p.1 ∙ ap Err p.2)
    (FailsNumbers-twice c.args.draft.now _ c.in_err-add_node_names.field-0.0 (λ place why. rw why.0 (why.1, rw c.as_slice.ensures at why.2)) c.in_err-add_node_names.ensures)

pub returns-in_err-add_link_names-clause-first : goal.returns-in_err-add_link_names-clause-first
returns-in_err-add_link_names-clause-first c =
    let p = err_from_is_err_and c.from_residual-in_err-add_link_names.result c.from_residual-in_err-add_link_names.ensures.1 in
    rw (p.1 ∙ ap Err p.2)
    (FailsNumbers-twice c.args.draft.now _ c.in_err-add_link_names.field-0.0
    (λ place why. rw why.0 (why.1, rw c.as_slice.ensures at c.in_ok-add_node_names.ensures.1, rw c.as_slice-2.ensures at why.2)) c.in_err-add_link_names.ensures)

pub phases_and_lists-requires-clause-nodes : goal.phases_and_lists-requires-clause-nodes
phases_and_lists-requires-clause-nodes c = rw c.as_slice.ensures at c.in_ok-add_node_names.ensures.0

pub phases_and_lists-requires-clause-links : goal.phases_and_lists-requires-clause-links
phases_and_lists-requires-clause-links c = rw c.as_slice-2.ensures at c.in_ok-add_link_names.ensures.0

pub returns-clause-names : goal.returns-clause-names
returns-clause-names c =
    names-after c.args.draft.now _ _ c.phases_and_lists.result _ c.as_slice.ensures _ c.as_slice-2.ensures c.in_ok-add_node_names.ensures.0 c.in_ok-add_link_names.ensures.0 c.in_ok-add_node_names.ensures.1 c.in_ok-add_link_names.ensures.1

pub returns-clause-ok : goal.returns-clause-ok
returns-clause-ok c = made-after _ c.args.draft.now c.phases_and_lists.result c.phases_and_lists.ensures

pub returns-clause-first : goal.returns-clause-first
returns-clause-first c =
    fails-after _ c.args.draft.now c.phases_and_lists.result (rw c.as_slice.ensures at c.in_ok-add_node_names.ensures.1) (rw c.as_slice-2.ensures at c.in_ok-add_link_names.ensures.1) c.phases_and_lists.ensures
