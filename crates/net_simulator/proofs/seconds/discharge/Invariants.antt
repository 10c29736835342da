use Rattle.std.proofs.Common.{◌≡◌, ◌≢◌, ℕ, ◌+◌, ◌*◌, ◌%◌, ◌<◌, ◌≤◌, slice_index, length}
use Rattle.net_parts.specs.Outline.{link_at, turns_at}
use Rattle.road_net.specs.Joins.{split_of}
use Rattle.road_net.specs.Totals.{total}
use Rattle.net_simulator.specs.Rows.{cell}
use Rattle.net_simulator.specs.Steps.{goes_at}
use Rattle.net_simulator.specs.Sums.{outward}
use Rattle.net_simulator.proofs.seconds.discharge.Given as goal

abbrev pub invariant-loop-l : goal.invariant-loop-l
invariant-loop-l l = record {
  leaving : (k : ℕ) → k < l.l → slice_index l.leaving k ≡ goes_at l.net l.shown.signs.now l.shown.since.now l.waits l.ready l.second k;
  most : (k : ℕ) → k < l.l → slice_index l.leaving k ≤ slice_index l.ready k;
  here : (k : ℕ) → k < length l.net.link_names → cell l.recent k l.second ≡ cell l.initial.recent k l.second + total (λ m. split_of (turns_at l.net m) (goes_at l.net l.shown.signs.now l.shown.since.now l.waits l.ready l.second m) k) l.l;
  out : l.out ≡ total (λ m. outward (link_at l.net m).to (goes_at l.net l.shown.signs.now l.shown.since.now l.waits l.ready l.second m)) l.l;
  few : l.out ≤ l.l * 4294967295;
  others : (k y : ℕ) → y % 128 ≢ l.second % 128 → cell l.recent k y ≡ cell l.initial.recent k y;
}
