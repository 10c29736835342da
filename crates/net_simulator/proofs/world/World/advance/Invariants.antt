use Rattle.std.proofs.Common.{◌≡◌, ◌+◌}
use Rattle.net_simulator.specs.Worlds.{Stands, signs_by}
use Rattle.arrivals.specs.Amounts.{arriving_of}
use Rattle.net_simulator.proofs.world.World.advance.Given as goal

abbrev pub invariant-loop-i : goal.invariant-loop-i
invariant-loop-i g l = record {
  second : l.self.second ≡ l.initial.self.second + l._i;
  stands : Stands l.net (arriving_of l.arrivals) (signs_by (g.T.Lights.lines l.lights)) l.self;
}
