use Rattle.pruned_dp.proofs.Orders.{comes-next}
use Rattle.pruned_dp.proofs.arrivals.next_phase.Goals as goal

pub returns-clause-some : goal.returns-clause-some
returns-clause-some c = comes-next c.args.i.now c.first_left.ensures.instance c.args.counts.now _ c.in_ok-phase.ensures.first
