use Rattle.std.proofs.Common.{map, take}
use Rattle.round_states.specs.NextTexts.{Keeps}
use Rattle.round_states.specs.StateRecords.{row_record}
use Rattle.round_states.proofs.kept_records.KeptRecords.add_rows.Given as goal

-- the records of the rows so far
abbrev pub invariant-loop-row : goal.invariant-loop-row
invariant-loop-row l = Keeps l.net l.fn.self l.self (map (row_record l.net l.link) (take l.row-index l.rows))
