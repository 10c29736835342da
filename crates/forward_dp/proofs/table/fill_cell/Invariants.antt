use Rattle.std.proofs.Common.{◌≡◌, ◌+◌, ◌≤◌, List, sum}
use Rattle.forward_dp.specs.Groups.{IsEmpty}
use Rattle.forward_dp.specs.declared.rows.Row.{Row}
use Rattle.forward_dp.specs.Tables.{HasEntries, IsCellReady}
use Rattle.forward_dp.proofs.Parting.{HasCome}
use Rattle.forward_dp.proofs.table.fill_cell.Given as goal

-- the groups of the phases so far are made, whichever rows were dropped before
abbrev pub invariant-loop-phase : goal.invariant-loop-phase
invariant-loop-phase g l = record {
  made : (gone : List Row) → HasEntries l.initial.past gone → IsCellReady l.task.i.now l.task.limit l.counts gone l.initial.rows l.initial.ends → HasCome (HasEntries l.past) l.task.i.now l.task.limit l.counts l.phase l.rows l.ends;
  keeps_entries : l.past.keeps_entries ≡ l.initial.past.keeps_entries;
  empty : IsEmpty l.reached;
  cost : l.steps + sum l.initial.ends ≤ l.initial.steps + sum l.ends;
}
