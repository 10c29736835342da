use Rattle.std.proofs.Common.{◌≡◌}
use Rattle.std.specs.Prelude.{vec_len, vec_capacity}
use Rattle.task_pool.specs.Known.{AreEmpty, AreOwnersOf}
use Rattle.task_pool.proofs.pool.new_slots.Given as goal

abbrev pub invariant-loop-made : goal.invariant-loop-made
invariant-loop-made g l = AreOwnersOf l.slots.items l.owners.items × AreEmpty l.owners.items × (vec_len l.slots ≡ l._made) × (vec_len l.owners ≡ l._made) × (vec_capacity l.slots ≡ vec_capacity l.initial.slots) × (vec_capacity l.owners ≡ vec_capacity l.initial.owners)
