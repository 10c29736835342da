use Rattle.parallel_dp.proofs.WayLaws.{IsGoing}
use Rattle.parallel_dp.proofs.ways.follow.Given as goal

abbrev pub invariant-loop-left : goal.invariant-loop-left
invariant-loop-left g l = IsGoing l.i l.delay l.sequence.items l.left l.here
