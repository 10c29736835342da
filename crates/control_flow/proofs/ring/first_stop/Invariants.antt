use Rattle.std.proofs.Common.{◌≡◌, ◌-◌, filter}
use Rattle.std.specs.List.{range_with_len}
use Rattle.control_flow.specs.Timelines.{stops_at}
use Rattle.control_flow.proofs.ring.first_stop.Given as goal

-- the phases at which the ring stops are those from here on
abbrev pub invariant-loop-phase : goal.invariant-loop-phase
invariant-loop-phase l = filter (stops_at l.plan l.calls) (range_with_len l.low (l.high - l.low)) ≡ filter (stops_at l.plan l.calls) (range_with_len l.phase (l.high - l.phase))
