use Rattle.std.proofs.Common.{◌≡◌, ℕ, ◌*◌, ◌<◌, ◌≤◌, slice_index}
use Rattle.net_simulator.specs.Rows.{cell}
use Rattle.net_simulator.specs.Counts.{counts_at}
use Rattle.net_simulator.specs.Steps.{all_of, counted}
use Rattle.net_simulator.proofs.seconds.count.Given as goal

abbrev pub invariant-loop-l : goal.invariant-loop-l
invariant-loop-l l = record {
  here : (k : ℕ) → k < l.l → counts_at l.counts k ≡ counted (counts_at l.initial.counts k) (cell l.recent k l.second) (slice_index l.leaving k) (slice_index l.queues k);
  rest : (k : ℕ) → l.l ≤ k → counts_at l.counts k ≡ counts_at l.initial.counts k;
  waits : l.waits ≡ all_of l.queues l.l;
  most : l.waits ≤ l.l * 4294967295;
}
