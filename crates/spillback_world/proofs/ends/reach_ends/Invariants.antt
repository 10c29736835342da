use Rattle.std.proofs.Common.{◌≡◌, ℕ, ◌-◌, ◌*◌, ◌<◌, ◌≤◌, slice_index}
use Rattle.net_parts.specs.Outline.{link_at}
use Rattle.road_net.specs.Totals.{total}
use Rattle.net_simulator.specs.LinkSeconds.{waits_at}
use Rattle.net_simulator.specs.Sums.{outward}
use Rattle.spillback_world.proofs.ends.reach_ends.Given as goal

-- the links so far have what reached their ends, and the others what they had
abbrev pub invariant-loop-l : goal.invariant-loop-l
invariant-loop-l l = record {
  leaving : (k : ℕ) → k < l.l → slice_index l.leaving k ≡ outward (link_at l.net k).to (waits_at l.net l.initial.queues l.recent l.second k);
  queues : (k : ℕ) → k < l.l → slice_index l.queues k ≡ waits_at l.net l.initial.queues l.recent l.second k - slice_index l.leaving k;
  held : (k : ℕ) → k < l.l → slice_index l.held k ≡ slice_index l.initial.held k - slice_index l.leaving k;
  queued : (k : ℕ) → l.l ≤ k → slice_index l.queues k ≡ slice_index l.initial.queues k;
  holding : (k : ℕ) → l.l ≤ k → slice_index l.held k ≡ slice_index l.initial.held k;
  out : l.out ≡ total (λ k. outward (link_at l.net k).to (waits_at l.net l.initial.queues l.recent l.second k)) l.l;
  most : l.out ≤ l.l * 4294967295;
}
