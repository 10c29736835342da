use Rattle.std.proofs.Common.{refl}
use Rattle.round_jobs.proofs.ServeLaws.{serves, unserved}
use Rattle.round_jobs.proofs.service.serve.Goals as goal

pub returns-in-Ok : goal.returns-in-Ok
returns-in-Ok g c = serves c.args.net.now _ _ _ _ _ c.in-Ok.network c.in-Ok.ensures.text c.in-Ok.ensures.ok c.serve_network.ensures

pub returns-in-Err : goal.returns-in-Err
returns-in-Err g c = unserved c.args.net.now _ _ _ _ _ c.in-Err.why c.in-Err.ensures.refused refl refl c.refuse.ensures
