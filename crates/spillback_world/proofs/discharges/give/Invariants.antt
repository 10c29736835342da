use Rattle.std.proofs.Common.{◌≡◌, slice_index}
use Rattle.net_parts.specs.Outline.{turns_at}
use Rattle.net_simulator.proofs.Turning.{AreTurned}
use Rattle.road_net.specs.Joins.{shares_to}
use Rattle.spillback_world.proofs.discharges.give.Given as goal

-- the parts of the turns so far were added
abbrev pub invariant-loop-turn : goal.invariant-loop-turn
invariant-loop-turn l = record {
  entering : AreTurned (turns_at l.net l.l) l.amount l.turn-index (slice_index l.initial.entering) (slice_index l.entering);
  held : AreTurned (turns_at l.net l.l) l.amount l.turn-index (slice_index l.initial.held) (slice_index l.held);
  before : l.before ≡ shares_to (turns_at l.net l.l) l.turn-index;
}
