use Rattle.std.proofs.Common.{◌≡◌, ◌≢◌, ℕ, ◌*◌, ◌%◌, ◌<◌, ◌≤◌, slice_index}
use Rattle.road_net.specs.Totals.{total}
use Rattle.net_simulator.specs.LinkSeconds.{waits_at}
use Rattle.net_simulator.specs.Rows.{cell}
use Rattle.arrivals.specs.Amounts.{AreRising, amount_to, arriving_of}
use Rattle.net_simulator.proofs.seconds.arrive.Given as goal

abbrev pub invariant-loop-l : goal.invariant-loop-l
invariant-loop-l l = record {
  rising : AreRising l.l l.coming;
  coming : (k : ℕ) → l.l ≤ k → amount_to l.coming k ≡ arriving_of l.arrivals l.second k;
  here : (k : ℕ) → k < l.l → cell l.recent k l.second ≡ arriving_of l.arrivals l.second k;
  others : (k y : ℕ) → y % 128 ≢ l.second % 128 → cell l.recent k y ≡ cell l.initial.recent k y;
  all : l.all ≡ total (λ k. arriving_of l.arrivals l.second k) l.l;
  most : l.all ≤ l.l * 4294967295;
  queues : (k : ℕ) → k < l.l → slice_index l.queues k ≡ waits_at l.net l.initial.queues l.recent l.second k;
  rest : (k : ℕ) → l.l ≤ k → slice_index l.queues k ≡ slice_index l.initial.queues k;
}
