use Rattle.parallel_dp.specs.Ways.{IsOnWay}
use Rattle.parallel_dp.proofs.WayLaws.{AreThoseOf}
use Rattle.parallel_dp.proofs.ways.leading_into.Given as goal

abbrev pub invariant-loop-entry : goal.invariant-loop-entry
invariant-loop-entry g l = AreThoseOf (IsOnWay l.i l.delay l.ways) l.layer l.entry-index l.those.items
