use Rattle.std.proofs.Common.{[]}
use Rattle.arrivals.specs.Amounts.{arriving_of}
use Rattle.net_simulator.specs.Worlds.{signs_by}
use Rattle.library_tests.proofs.rounds.actors.sensed.Goals as goal

pub sense-requires-clause-world : goal.sense-requires-clause-world
sense-requires-clause-world c = record {
  arrivals = c.args.arrivals.now;
  lines = λ node. [];
  enter = c.requires.arrivals;
  stands = c.in_ok-world.ensures.stands (arriving_of c.args.arrivals.now) (signs_by (λ node. []));
}
