use Rattle.std.proofs.Common.{rules}
use Rattle.task_pool.proofs.Held.{held-back, some-laid}
use Rattle.task_pool.proofs.Steps.{takes-back}
use Rattle.task_pool.proofs.slot.Slot.try_take_back.Goals as goal

pub compare_exchange-requires : goal.compare_exchange-requires
compare_exchange-requires g c = let p = c.args.owner.now.placed in let was = some-laid _ c.requires.laid in
    (search rules, search rules, takes-back _ _ _ _ _ was.0 p.0 p.1 was.1)

pub exchange-requires : goal.exchange-requires
exchange-requires g c = (search rules, held-back c.args.owner.now.seat.me c.compare_exchange.new.seat.me g.T.Task.done (rw c.if-compare_exchange-ne3.false at c.compare_exchange.ensures.2))
