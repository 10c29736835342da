use Rattle.std.proofs.Common.{◌≡◌, ◌-◌, ◌*◌, ◌≤◌}
use Rattle.std.specs.List.{range_with_len}
use Rattle.phase_plan.proofs.RingLaws.{stopping, time_at}
use Rattle.phase_plan.proofs.passing_time.Given as goal

-- the total is that of the phases so far that it passes, each at most 140
abbrev pub invariant-loop-k : goal.invariant-loop-k
invariant-loop-k l = record {
  value : l.total ≡ time_at l.phases (stopping l.phases l.all (range_with_len l.low (l.k - l.low)));
  bounds : l.total ≤ 140 * (l.k - l.low);
}
