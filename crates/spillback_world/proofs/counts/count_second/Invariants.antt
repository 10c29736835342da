use Rattle.std.proofs.Common.{◌≡◌, ℕ, ◌<◌, ◌≤◌}
use Rattle.net_simulator.specs.Counts.{counts_at}
use Rattle.spillback_world.specs.Counting.{counted_by}
use Rattle.spillback_world.proofs.counts.count_second.Given as goal

-- the links so far are counted, and the others are as they were
abbrev pub invariant-loop-l : goal.invariant-loop-l
invariant-loop-l l = record {
  here : (k : ℕ) → k < l.l → counts_at l.counts k ≡ counted_by (counts_at l.initial.counts k) l.world k;
  rest : (k : ℕ) → l.l ≤ k → counts_at l.counts k ≡ counts_at l.initial.counts k;
}
