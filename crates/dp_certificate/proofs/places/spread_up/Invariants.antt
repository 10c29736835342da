use Rattle.std.proofs.Common.{◌-◌, ◌<◌, ◌≤◌, length}
use Rattle.dp_certificate.specs.Certificates.{IsBefore, digits_of, entry_at}
use Rattle.dp_certificate.proofs.places.spread_up.Given as goal

-- the entry below low is before the key
abbrev pub invariant-loop-step : goal.invariant-loop-step
invariant-loop-step l = record {
  some : 0 < l.low;
  within : l.low ≤ length l.entries;
  small : l.step ≤ l.low;
  before : IsBefore (digits_of (entry_at l.entries (l.low - 1))) (digits_of l.key);
}

abbrev pub decreases-loop-step : goal.decreases-loop-step
decreases-loop-step l = length l.entries - l.low
