use Rattle.std.proofs.Common.{◌≡◌, ℕ, ◌<◌, map}
use Rattle.std.specs.List.{range_with_len}
use Rattle.round_states.specs.Texts.{IsBoardOnce, board_in}
use Rattle.round_states.proofs.boards.boards.Given as goal

-- the boards of the links so far
abbrev pub invariant-loop-link : goal.invariant-loop-link
invariant-loop-link l = record {
  boards : l.boards.items ≡ map (board_in l.entries) (range_with_len 0 l.link);
  once : (k : ℕ) → k < l.link → IsBoardOnce l.net l.entries k;
}
