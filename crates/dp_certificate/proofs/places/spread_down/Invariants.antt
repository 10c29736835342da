use Rattle.std.proofs.Common.{◌+◌, ◌<◌, ◌≤◌, length}
use Rattle.dp_certificate.specs.Certificates.{IsBefore, digits_of, entry_at}
use Rattle.dp_certificate.proofs.places.spread_down.Given as goal

-- the entry at high is not before the key, and high has come down by less than a step
abbrev pub invariant-loop-step : goal.invariant-loop-step
invariant-loop-step l = record {
  some : 0 < l.step;
  small : l.high + l.step ≤ l.near + 1;
  here : l.high < length l.entries → ¬ IsBefore (digits_of (entry_at l.entries l.high)) (digits_of l.key);
}

abbrev pub decreases-loop-step : goal.decreases-loop-step
decreases-loop-step l = l.high
