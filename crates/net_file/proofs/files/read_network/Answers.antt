use Rattle.std.proofs.lemmas.Result.{err_from_is_err_and, IfErr-weaker}
use Rattle.net_file.specs.NetworkText.{IsCause}
use Rattle.net_file.proofs.Causes.{IsCause-drafts, IsCause-built, IsCause-none}
use Rattle.net_file.proofs.files.read_network.Goals as goal

pub returns-in_err-draft-clause-first : goal.returns-in_err-draft-clause-first
returns-in_err-draft-clause-first c =
    let p = err_from_is_err_and c.from_residual.result c.from_residual.ensures.1 in
    rw (p.1, p.2) (IsCause-drafts c.args.bytes.now _ c.in_err-draft.ensures)

pub returns-clause-first : goal.returns-clause-first
returns-clause-first c =
    IsCause-built c.args.bytes.now c.in_ok-draft.draft c.build.result c.in_ok-draft.ensures c.build.ensures.refused c.build.ensures.first

pub returns-clause-refused : goal.returns-clause-refused
returns-clause-refused c = IfErr-weaker c.build.result (IsCause c.args.bytes.now) _ (IsCause-none c.args.bytes.now) (returns-clause-first c)
