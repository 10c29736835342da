use Rattle.std.proofs.Common.{◌≡◌, ◌+◌, slice_index}
use Rattle.arrivals.specs.Amounts.{arriving_of}
use Rattle.net_simulator.specs.Worlds.{signs_by}
use Rattle.spillback_world.specs.Worlds.{Stands}
use Rattle.spillback_world.proofs.worlds.SpillWorld.advance.Given as goal

abbrev pub invariant-loop-i : goal.invariant-loop-i
invariant-loop-i g l = record {
  second : l.self.second ≡ l.initial.self.second + l._i;
  stands : Stands l.net (arriving_of l.arrivals) (slice_index l.store) (signs_by (g.T.Lights.lines l.lights)) l.self;
}
