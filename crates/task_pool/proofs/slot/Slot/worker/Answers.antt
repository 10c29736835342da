use Rattle.std.proofs.Common.{rules}
use Rattle.task_pool.proofs.Steps.{seats-worker}
use Rattle.task_pool.proofs.slot.Slot.worker.Goals as goal

pub split_seat-seat-requires : goal.split_seat-seat-requires
split_seat-seat-requires g c = (search rules, search rules, seats-worker _ _ _ _)
