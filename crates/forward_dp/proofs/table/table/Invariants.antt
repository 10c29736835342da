use Rattle.std.proofs.Common.{◌≡◌, ℕ, ◌+◌, ◌-◌, ◌≤◌, List, sum, get_or}
use Rattle.forward_dp.specs.Groups.{IsEmpty}
use Rattle.forward_dp.specs.declared.rows.Row.{Row}
use Rattle.forward_dp.specs.Numbers.{counts_number}
use Rattle.forward_dp.specs.Tables.{HasEntries}
use Rattle.forward_dp.proofs.Parting.{IsUnderWay}
use Rattle.forward_dp.proofs.table.table.Given as goal

-- the cells up to these counts are made, and some rows are dropped
abbrev pub invariant-loop-next : goal.invariant-loop-next
invariant-loop-next g l = record {
  gone : List Row;
  held : HasEntries l.past gone;
  keeps_entries : l.past.keeps_entries ≡ l.initial.past.keeps_entries;
  way : IsUnderWay l.i l.limit l.counts 4 gone l.rows l.ends;
  within : (k : ℕ) → get_or l.counts k 0 ≤ get_or l.last k 0;
  empty : IsEmpty l.reached;
  cost : l.steps ≤ l.initial.steps + sum l.ends;
}

abbrev pub decreases-loop-next : goal.decreases-loop-next
decreases-loop-next g l = counts_number l.last - counts_number l.counts
