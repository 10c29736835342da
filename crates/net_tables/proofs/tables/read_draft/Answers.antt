use Rattle.std.proofs.Common.{Err, ap, ◌∙◌, refl}
use Rattle.std.proofs.lemmas.Result.{err_from_is_err_and}
use Rattle.toml.specs.View.{table_view}
use Rattle.net_tables.proofs.FirstLaws.{IsRefused, draft-refused, nodes-fault, links-fault, conflicts-fault}
use Rattle.net_tables.proofs.tables.read_draft.Goals as goal

-- at the first node that is not read
nodes : (c : goal.After-from_residual) → IsRefused (table_view c.args.table.now) c.from_residual.result
nodes c =
    let p = err_from_is_err_and c.from_residual.result c.from_residual.ensures.1 in
    let first = c.in_err-nodes.ensures.first in
    draft-refused _ _ c.from_residual.result _ (p.1 ∙ ap Err p.2) (nodes-fault _ _ c.in-Some.ensures (rw (← c.in-Some-run_of.ensures) refl)) first

pub returns-in_err-nodes-clause-refused : goal.returns-in_err-nodes-clause-refused
returns-in_err-nodes-clause-refused c = (nodes c).refused

pub returns-in_err-nodes-clause-first : goal.returns-in_err-nodes-clause-first
returns-in_err-nodes-clause-first c = (nodes c).first

-- at the first link
links : (c : goal.After-drop-nodes) → IsRefused (table_view c.args.table.now) c.from_residual-in_err-links.result
links c =
    let p = err_from_is_err_and c.from_residual-in_err-links.result c.from_residual-in_err-links.ensures.1 in
    let nodes = c.in_ok-nodes.ensures.ok in
    let first = c.in_err-links.ensures.first in
    draft-refused _ _ c.from_residual-in_err-links.result _ (p.1 ∙ ap Err p.2) (links-fault _ _ c.in-Some.ensures (rw (← c.in-Some-run_of.ensures) refl) (rw nodes refl)) first

pub returns-in_err-links-clause-refused : goal.returns-in_err-links-clause-refused
returns-in_err-links-clause-refused c = (links c).refused

pub returns-in_err-links-clause-first : goal.returns-in_err-links-clause-first
returns-in_err-links-clause-first c = (links c).first

-- at the first conflict
conflicts : (c : goal.After-drop-nodes-in_err-conflicts) → IsRefused (table_view c.args.table.now) c.from_residual-in_err-conflicts.result
conflicts c =
    let p = err_from_is_err_and c.from_residual-in_err-conflicts.result c.from_residual-in_err-conflicts.ensures.1 in
    let nodes = c.in_ok-nodes.ensures.ok in
    let links = c.in_ok-links.ensures.ok in
    let first = c.in_err-conflicts.ensures.first in
    draft-refused _ _ c.from_residual-in_err-conflicts.result _ (p.1 ∙ ap Err p.2) (conflicts-fault _ _ c.in-Some.ensures (rw (← c.in-Some-run_of.ensures) refl) (rw nodes refl) (rw links refl)) first

pub returns-in_err-conflicts-clause-refused : goal.returns-in_err-conflicts-clause-refused
returns-in_err-conflicts-clause-refused c = (conflicts c).refused

pub returns-in_err-conflicts-clause-first : goal.returns-in_err-conflicts-clause-first
returns-in_err-conflicts-clause-first c = (conflicts c).first
