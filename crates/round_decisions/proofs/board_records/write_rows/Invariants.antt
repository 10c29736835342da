use Rattle.std.proofs.Common.{map, take}
use Rattle.round_states.specs.StateRecords.{row_record}
use Rattle.world_records.specs.Written.{Adds}
use Rattle.round_decisions.proofs.board_records.write_rows.Given as goal

-- the records of the rows so far
abbrev pub invariant-loop-row : goal.invariant-loop-row
invariant-loop-row l = Adds l.fn.out l.out (map (row_record l.net l.link) (take l.row-index l.rows))
