use Rattle.std.proofs.Common.{◌≡◌, ℕ, ◌-◌, ◌<◌, ◌≤◌, slice_index}
use Rattle.net_simulator.proofs.seconds.settle.Given as goal

abbrev pub invariant-loop-l : goal.invariant-loop-l
invariant-loop-l l = record {
  here : (k : ℕ) → k < l.l → slice_index l.queues k ≡ slice_index l.initial.queues k - slice_index l.leaving k;
  rest : (k : ℕ) → l.l ≤ k → slice_index l.queues k ≡ slice_index l.initial.queues k;
}
