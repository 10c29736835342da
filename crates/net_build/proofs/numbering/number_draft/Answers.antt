use Rattle.std.proofs.Common.{Err, ap, ◌∙◌, rules}
use Rattle.std.proofs.lemmas.Result.{err_from_is_err_and}
use Rattle.net_build.proofs.FirstFaults.{numbered-fails}
use Rattle.net_build.proofs.Stages.{named-net}
use Rattle.net_build.proofs.numbering.number_draft.Goals as goal

pub returns-in_err-phases : goal.returns-in_err-phases
returns-in_err-phases c =
    let p = err_from_is_err_and c.from_residual.result c.from_residual.ensures.1 in
    let both = numbered-fails c.args.draft.now _ _ (p.1 ∙ ap Err p.2) c.in_err-phases.ensures.first in
    record { ok = search rules; refused = both.0; first = both.1 }

pub returns-clause-ok : goal.returns-clause-ok
returns-clause-ok c = named-net c.args.draft.now _ _ c.in_ok-phases.ensures.names _ _ _ _ _ _ _ c.in_ok-phases.ensures.ok
