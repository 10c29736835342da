use Rattle.std.proofs.Common.{◌≡◌, ◌≢◌, ℕ, ◌+◌, ◌-◌, ◌*◌, ◌%◌, ◌<◌, ◌≤◌, slice_index}
use Rattle.road_net.specs.Totals.{total}
use Rattle.arrivals.specs.Amounts.{AreRising, amount_to, arriving_of}
use Rattle.net_simulator.specs.Rows.{cell}
use Rattle.spillback_world.specs.Steps.{comes_of}
use Rattle.spillback_world.proofs.ends.let_in.Given as goal

-- what has capacity has entered the links so far
abbrev pub invariant-loop-l : goal.invariant-loop-l
invariant-loop-l l = record {
  rising : AreRising l.l l.coming;
  coming : (k : ℕ) → l.l ≤ k → amount_to l.coming k ≡ arriving_of l.gate.arrivals.now l.gate.second k;
  outside : (k : ℕ) → k < l.l → slice_index l.outside k ≡ slice_index l.initial.outside k + arriving_of l.gate.arrivals.now l.gate.second k - comes_of l.gate.store.now l.initial.held l.initial.outside (arriving_of l.gate.arrivals.now l.gate.second) k;
  held : (k : ℕ) → k < l.l → slice_index l.held k ≡ slice_index l.initial.held k + comes_of l.gate.store.now l.initial.held l.initial.outside (arriving_of l.gate.arrivals.now l.gate.second) k;
  here : (k : ℕ) → k < l.l → cell l.recent k l.gate.second ≡ slice_index l.entering k + comes_of l.gate.store.now l.initial.held l.initial.outside (arriving_of l.gate.arrivals.now l.gate.second) k;
  others : (k y : ℕ) → y % 128 ≢ l.gate.second % 128 → cell l.recent k y ≡ cell l.initial.recent k y;
  waiting : (k : ℕ) → l.l ≤ k → slice_index l.outside k ≡ slice_index l.initial.outside k;
  holding : (k : ℕ) → l.l ≤ k → slice_index l.held k ≡ slice_index l.initial.held k;
  all : l.all ≡ total (comes_of l.gate.store.now l.initial.held l.initial.outside (arriving_of l.gate.arrivals.now l.gate.second)) l.l;
  most : l.all ≤ l.l * 4294967295;
}
