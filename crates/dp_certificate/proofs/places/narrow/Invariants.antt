use Rattle.std.proofs.Common.{◌-◌}
use Rattle.dp_certificate.specs.Places.{IsSpan}
use Rattle.dp_certificate.proofs.places.narrow.Given as goal

-- the place is still in the span
abbrev pub invariant-loop-low : goal.invariant-loop-low
invariant-loop-low l = IsSpan l.entries l.key l.low l.high

abbrev pub decreases-loop-low : goal.decreases-loop-low
decreases-loop-low l = l.high - l.low
