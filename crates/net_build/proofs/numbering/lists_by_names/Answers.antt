use Rattle.std.proofs.Common.{Err, ap, ◌∙◌}
use Rattle.std.proofs.lemmas.Result.{err_from_is_err_and}
use Rattle.net_build.proofs.Stages.{tables-nodes, tables-phases, tables-own, fault-road, fault-conflict, numbers-all}
use Rattle.net_build.proofs.numbering.lists_by_names.Goals as goal

pub roads-requires-clause-nodes : goal.roads-requires-clause-nodes
roads-requires-clause-nodes c = tables-nodes _ _ _ _ _ c.requires.tables

pub roads-requires-clause-phases : goal.roads-requires-clause-phases
roads-requires-clause-phases c = tables-phases _ _ _ _ _ c.requires.tables c.requires.bounds.nodes

pub roads-requires-clause-own : goal.roads-requires-clause-own
roads-requires-clause-own c = tables-own _ _ _ _ _ c.requires.tables _ c.as_slice.ensures

pub returns-in_err-roads : goal.returns-in_err-roads
returns-in_err-roads c =
    let p = err_from_is_err_and c.from_residual.result c.from_residual.ensures.1 in
    rw (p.1 ∙ ap Err p.2) (fault-road _ _ _ _ _ c.requires.tables _ c.as_slice.ensures c.in_err-roads.field-0.0 c.in_err-roads.ensures)

pub returns-in_err-conflicts : goal.returns-in_err-conflicts
returns-in_err-conflicts c =
    let p = err_from_is_err_and c.from_residual-in_err-conflicts.result c.from_residual-in_err-conflicts.ensures.1 in
    rw (p.1 ∙ ap Err p.2)
    (fault-conflict _ _ _ _ _ c.requires.tables _ c.as_slice.ensures _ c.in_ok-roads.ensures _ c.as_slice-2.ensures c.in_err-conflicts.field-0.0 c.in_err-conflicts.ensures)

pub returns : goal.returns
returns c =
    numbers-all _ _ _ _ _ c.requires.tables _ c.as_slice.ensures _ c.in_ok-roads.ensures _ c.as_slice-2.ensures _ c.as_slice-3.ensures _ _ c.in_ok-conflicts.ensures c.in_ok-plans.ensures
