use Rattle.std.proofs.Common.{◌≡◌, ℕ, ◌≤◌, length, get_or}
use Rattle.schedule_meaning.specs.Instances.{list_at}
use Rattle.pruned_dp.proofs.Orders.{GoesOn, left_over}
use Rattle.pruned_dp.proofs.arrivals.by_arrival.Given as goal

-- the sequence so far goes on as what is left does
abbrev pub invariant-loop-phase : goal.invariant-loop-phase
invariant-loop-phase l = record {
  places : length l.counts ≡ 4;
  within : (k : ℕ) → get_or l.counts k 0 ≤ length (list_at l.i.lists k);
  order : GoesOn l.i l.counts l.sequence.items;
}

abbrev pub decreases-loop-phase : goal.decreases-loop-phase
decreases-loop-phase l = left_over l.i l.counts
