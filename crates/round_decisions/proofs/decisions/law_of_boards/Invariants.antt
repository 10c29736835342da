use Rattle.std.proofs.Common.{All, take}
use Rattle.board_model.specs.Forecasts.{IsForecast}
use Rattle.round_decisions.proofs.decisions.law_of_boards.Given as goal

-- what stands on the boards so far is a forecast
abbrev pub invariant-loop-board : goal.invariant-loop-board
invariant-loop-board l = All (λ board. IsForecast board.forecast) (take l.board-index l.boards)
