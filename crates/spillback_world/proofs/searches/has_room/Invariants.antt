use Rattle.std.proofs.Common.{◌≡◌, ℕ, ◌<◌, ◌≤◌}
use Rattle.net_parts.specs.Outline.{turns_at}
use Rattle.net_simulator.proofs.Turning.{exit_at}
use Rattle.road_net.specs.Joins.{shares_to, split_of}
use Rattle.spillback_world.specs.Filling.{room_of}
use Rattle.spillback_world.proofs.searches.has_room.Given as goal

-- there is room for the parts of the turns so far
abbrev pub invariant-loop-turn : goal.invariant-loop-turn
invariant-loop-turn l = record {
  fit : (i : ℕ) → i < l.turn-index → split_of (turns_at l.net l.l) l.amount (exit_at (turns_at l.net l.l) i) ≤ room_of l.store l.held (exit_at (turns_at l.net l.l) i);
  before : l.before ≡ shares_to (turns_at l.net l.l) l.turn-index;
}
