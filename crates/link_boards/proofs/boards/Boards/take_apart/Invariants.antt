use Rattle.std.proofs.Common.{◌≡◌, ◌<◌, ◌≤◌, true, false}
use Rattle.std.specs.Prelude.{slice_index_or}
use Rattle.std.specs.Mem.Slots.{slots_filled, slots_len}
use Rattle.link_boards.proofs.boards.Boards.take_apart.Given as goal

abbrev pub invariant-loop-k : goal.invariant-loop-k
invariant-loop-k g l = record {
  count : slots_len l.closed.slots ≡ l.links;
  full : (k : _) → l.k ≤ k → k < l.links → slice_index_or (slots_filled l.closed.slots) k false ≡ true;
  taken : (k : _) → k < l.k → slice_index_or (slots_filled l.closed.slots) k false ≡ false;
}
