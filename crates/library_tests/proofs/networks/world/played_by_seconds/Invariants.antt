use Rattle.std.proofs.Common.{◌≡◌}
use Rattle.arrivals.specs.Amounts.{arriving_of}
use Rattle.net_simulator.specs.Worlds.{Stands, line_in, signs_by}
use Rattle.library_tests.proofs.networks.world.played_by_seconds.Given as goal

abbrev pub invariant-loop-i : goal.invariant-loop-i
invariant-loop-i l = record {
  second : l.world.second ≡ l._i;
  stands : Stands l.net (arriving_of l.arrivals) (signs_by (line_in l.lines.all.now)) l.world;
}
