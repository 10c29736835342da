use Rattle.std.proofs.Common.{inl, refl}
use Rattle.round_jobs.proofs.ServeLaws.{told}
use Rattle.round_jobs.proofs.service.serve_network.Goals as goal

pub returns-in-Ok : goal.returns-in-Ok
returns-in-Ok g c = inl (refl, c.in-Ok.ensures, refl)

pub returns-in-Err : goal.returns-in-Err
returns-in-Err g c = told c.args.net.now _ _ _ _ _ _ c.in-Err.why _ c.in-Err.ensures c.refuse.ensures
