use Rattle.std.proofs.Common.{map, take}
use Rattle.round_states.specs.NextTexts.{Keeps}
use Rattle.round_states.specs.StateRecords.{green_record}
use Rattle.round_states.proofs.kept_records.KeptRecords.add_greens.Given as goal

-- the records of the rows so far
abbrev pub invariant-loop-green : goal.invariant-loop-green
invariant-loop-green l = Keeps l.net l.fn.self l.self (map (green_record l.net l.node) (take l.green-index l.greens))
