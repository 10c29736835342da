use Rattle.std.proofs.Common.{map, take}
use Rattle.round_states.specs.StateRecords.{green_record}
use Rattle.world_records.specs.Written.{Adds}
use Rattle.round_decisions.proofs.turn_records.write_greens.Given as goal

-- the records of the rows so far
abbrev pub invariant-loop-green : goal.invariant-loop-green
invariant-loop-green l = Adds l.fn.out l.out (map (green_record l.net l.node) (take l.green-index l.greens))
