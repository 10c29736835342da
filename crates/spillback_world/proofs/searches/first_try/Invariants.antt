use Rattle.std.proofs.Common.{◌≡◌, ℕ, ◌<◌, ◌≤◌, false}
use Rattle.net_parts.specs.Outline.{turns_at}
use Rattle.spillback_world.specs.Filling.{has_room, room_of}
use Rattle.spillback_world.proofs.searches.first_try.Given as goal

-- no amount above this one and up to the wish has room
abbrev pub invariant-loop-turn : goal.invariant-loop-turn
invariant-loop-turn l = record {
  most : l.most ≤ l.wish;
  above : (a : ℕ) → l.most < a → a ≤ l.wish → has_room (turns_at l.net l.l) (room_of l.store l.held) a ≡ false;
}
