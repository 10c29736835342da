use Rattle.std.proofs.Common.{Err, Some, ap, sym, ◌∙◌}
use Rattle.std.proofs.lemmas.Result.{err_from_is_err_and}
use Rattle.net_build.proofs.Stages.{fault-phase}
use Rattle.net_build.proofs.Greens.{greens-parts}
use Rattle.net_build.proofs.numbering.phases_and_lists.Goals as goal

pub returns-in_err-greens : goal.returns-in_err-greens
returns-in_err-greens c =
    let p = err_from_is_err_and c.from_residual.result c.from_residual.ensures.1 in
    rw (p.1 ∙ ap Err p.2) (fault-phase c.args.draft.now c.args.nodes.now c.args.links.now c.requires.links _ c.as_slice.ensures c.in_err-greens.field-0.0 c.in_err-greens.ensures)

pub lists_by_names-requires-clause-tables : goal.lists_by_names-requires-clause-tables
lists_by_names-requires-clause-tables c =
    let parts = greens-parts _ _ _ (rw (c.requires.links, c.as_slice.ensures) at c.in_ok-greens.ensures) in
    record {
      nodes = c.requires.nodes;
      links = c.requires.links;
      phases = parts.0 ∙ ap Some (sym c.as_slice-2.ensures.value);
      also = parts.1 ∙ ap Some (sym c.as_slice-3.ensures.value);
    }
