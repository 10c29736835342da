use Rattle.std.specs.List.{flat_map, range_with_len}
use Rattle.round_decisions.specs.DecisionTexts.{board_records_of}
use Rattle.world_records.specs.Written.{Adds}
use Rattle.round_decisions.proofs.board_records.write_boards.Given as goal

-- the records of the boards so far
abbrev pub invariant-loop-link : goal.invariant-loop-link
invariant-loop-link l = Adds l.fn.out l.out (flat_map (board_records_of l.net l.node l.boards) (range_with_len 0 l.link))
