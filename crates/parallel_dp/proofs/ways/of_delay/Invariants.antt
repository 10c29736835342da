use Rattle.std.proofs.Common.{◌≡◌}
use Rattle.parallel_dp.proofs.WayLaws.{AreThoseOf}
use Rattle.parallel_dp.proofs.ways.of_delay.Given as goal

abbrev pub invariant-loop-entry : goal.invariant-loop-entry
invariant-loop-entry l = AreThoseOf (λ e. e.delay ≡ l.delay) l.layer l.entry-index l.those.items
