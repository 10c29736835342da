use Rattle.std.proofs.Common.{◌≡◌}
use Rattle.task_pool.proofs.slot.Slot.take_back.Given as goal

abbrev pub invariant-loop : goal.invariant-loop
invariant-loop g l = (goal.iterator-loop g).can_next l.iterator' × (goal.iterator-loop g).is_finite l.iterator' × (l.owner.seat.table_id ≡ l.initial.owner.seat.table_id) × (l.owner.seat.me.0.laid ≡ l.initial.owner.seat.me.0.laid)
