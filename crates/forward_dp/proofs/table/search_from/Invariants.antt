use Rattle.std.proofs.Common.{◌-◌, ◌<◌, ◌≤◌, length}
use Rattle.forward_dp.specs.Tables.{counts_number_at}
use Rattle.forward_dp.proofs.table.search_from.Given as goal

-- the place is still in the span
abbrev pub invariant-loop-low : goal.invariant-loop-low
invariant-loop-low l = record {
  rise : l.from ≤ l.low;
  span : l.low ≤ l.high;
  within : l.high ≤ length l.rows;
  below : l.from < l.low → counts_number_at l.rows (l.low - 1) < l.least;
  short : l.step ≤ 65535;
  here : l.high < length l.rows → l.least ≤ counts_number_at l.rows l.high;
}

abbrev pub decreases-loop-low : goal.decreases-loop-low
decreases-loop-low l = l.high - l.low
