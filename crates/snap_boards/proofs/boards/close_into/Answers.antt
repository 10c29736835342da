use Rattle.snap_boards.proofs.Closes.{all-logs}
use Rattle.snap_boards.proofs.boards.close_into.Goals as goal

pub returns-in-Ok : goal.returns-in-Ok
returns-in-Ok g c = all-logs c.args.boards.links c.args.passes.items c.in-Ok.slots.items c.into_logs.result.items c.into_logs.ensures c.in-Ok.ensures.ok
