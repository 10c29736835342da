use Rattle.std.proofs.Common.{◌≡◌, ◌-◌, filter}
use Rattle.std.specs.List.{range_with_len}
use Rattle.phase_plan.specs.Phases.{is_unmarked_at}
use Rattle.phase_plan.proofs.first_unmarked.Given as goal

-- the unmarked ones are those from here on
abbrev pub invariant-loop-k : goal.invariant-loop-k
invariant-loop-k l = filter (is_unmarked_at l.phases) (range_with_len l.low (l.high - l.low)) ≡ filter (is_unmarked_at l.phases) (range_with_len l.k (l.high - l.k))
