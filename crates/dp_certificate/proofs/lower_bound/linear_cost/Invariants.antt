use Rattle.std.proofs.Common.{◌≡◌, ℕ, ◌+◌, ◌*◌, ◌≤◌, sum_by}
use Rattle.std.specs.List.{range_with_len}
use Rattle.dp_certificate.specs.LowerBound.{IsShallow}
use Rattle.dp_certificate.proofs.RestLaws.{left_cost}
use Rattle.dp_certificate.proofs.lower_bound.linear_cost.Given as goal

-- what is left of the phases so far
abbrev pub invariant-loop-phase : goal.invariant-loop-phase
invariant-loop-phase l = record {
  from : l.line.from ≤ l.at;
  to : l.at ≤ l.line.to;
  is : (t : ℕ) → l.line.from ≤ t → t ≤ l.line.to → sum_by (left_cost l.i l.counts t) (range_with_len 0 l.phase) + l.line.offset ≡ l.line.steepness * t;
  small : IsShallow l.phase l.line;
}
