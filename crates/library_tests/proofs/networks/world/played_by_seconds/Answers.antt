use Rattle.std.proofs.Common.{arith}
use Rattle.library_tests.proofs.networks.world.played_by_seconds.Goals as goal

pub loop-i-init : goal.loop-i-init
loop-i-init c = record { second = omega (arith, c.in_ok-world.ensures.second); stands = c.in_ok-world.ensures.stands _ _ }
