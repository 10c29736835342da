use Rattle.std.proofs.Common.{rules}
use Rattle.task_pool.proofs.Held.{held-taken}
use Rattle.task_pool.proofs.Steps.{takes-task}
use Rattle.task_pool.proofs.slot.Slot.try_take.Goals as goal

pub compare_exchange-requires : goal.compare_exchange-requires
compare_exchange-requires g c = let p = c.args.worker.now.placed in
    (search rules, search rules, takes-task _ _ _ _ _ p.0 c.requires.free)

pub exchange-requires : goal.exchange-requires
exchange-requires g c = (search rules, held-taken c.args.worker.now.seat.me c.compare_exchange.new.seat.me g.T.Task.ready (rw c.if-compare_exchange-ne1.false at c.compare_exchange.ensures.2))
