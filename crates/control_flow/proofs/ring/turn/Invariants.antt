use Rattle.std.proofs.Common.{◌≡◌, ◌+◌, ◌-◌, ◌<◌, ◌++◌, length}
use Rattle.control_flow.specs.Timelines.{stops_at, turning, turned}
use Rattle.control_flow.proofs.ring.turn.Given as goal

-- what is there and what is still to come is the whole
abbrev pub invariant-loop-last : goal.invariant-loop-last
invariant-loop-last l = record {
  rows : l.rows.items ++ turning l.plan (stops_at l.plan l.calls) (l.until + 1 - l.last.to) l.until l.last.phase l.last.to ≡ l.fn.rows.items ++ turned l.plan (stops_at l.plan l.calls) l.head l.fn.to l.until;
  phase : l.last.phase < length l.plan;
}

abbrev pub decreases-loop-last : goal.decreases-loop-last
decreases-loop-last l = l.until + 1 - l.last.to
