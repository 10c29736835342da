use Rattle.std.proofs.Common.{None}
use Rattle.std.specs.List.{flat_map, range_with_len}
use Rattle.round_decisions.specs.DecisionTexts.{board_records_of}
use Rattle.round_states.specs.NextTexts.{Keeps}
use Rattle.round_decisions.proofs.kept_decisions.keep_boards.Given as goal

-- the records of the boards so far
abbrev pub invariant-loop-link : goal.invariant-loop-link
invariant-loop-link l = Keeps l.net l.fn.kept l.kept (flat_map (board_records_of l.net None l.boards) (range_with_len 0 l.link))
