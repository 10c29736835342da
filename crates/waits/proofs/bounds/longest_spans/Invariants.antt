use Rattle.std.proofs.Common.{◌≡◌, ◌-◌, ◌*◌, ◌≤◌, sum_by}
use Rattle.std.specs.List.{range_with_len}
use Rattle.waits.specs.Waits.{longest_intergreen, longest_span}
use Rattle.waits.proofs.bounds.longest_spans.Given as goal

-- the total is that of the phases so far, each at most 420
abbrev pub invariant-loop-k : goal.invariant-loop-k
invariant-loop-k l = record {
  value : l.total ≡ sum_by (longest_span l.plan (longest_intergreen l.plan l.look)) (range_with_len l.low (l.k - l.low));
  bounds : l.total ≤ 420 * (l.k - l.low);
}
