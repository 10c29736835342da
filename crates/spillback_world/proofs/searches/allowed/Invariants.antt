use Rattle.std.proofs.Common.{◌≡◌, ℕ, ◌<◌, ◌≤◌, false}
use Rattle.net_parts.specs.Outline.{turns_at}
use Rattle.spillback_world.specs.Filling.{has_room, room_of}
use Rattle.spillback_world.proofs.searches.allowed.Given as goal

-- no amount above those that are left and up to the wish has room
abbrev pub invariant-loop-below : goal.invariant-loop-below
invariant-loop-below l = record {
  most : l.below ≤ l.wish;
  above : (a : ℕ) → l.below < a → a ≤ l.wish → has_room (turns_at l.net l.l) (room_of l.store l.held) a ≡ false;
}
