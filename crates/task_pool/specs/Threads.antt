-- What is known of the threads of a pool. No public clause cites this.
use Rattle.std.specs.Prelude.{List, All}
use Rattle.task_pool.specs.declared.slot.Slot.{Slot}
use Rattle.task_pool.specs.declared.pool.PoolThread.{PoolThread}
use Rattle.task_pool.specs.Known.{AreWorkersOf}

-- each of these threads has its ends of the slots, with no task
abbrev pub AreThreadsOf : {T : Type 0} → List (Slot T) → List (PoolThread T) → Type 0
AreThreadsOf slots threads = All (λ thread. AreWorkersOf slots thread.workers.items) threads
