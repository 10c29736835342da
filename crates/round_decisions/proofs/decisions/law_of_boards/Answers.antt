use Rattle.board_model.specs.Forecasts.{IsForecast}
use Rattle.foundation.proofs.ListLaws.{All-step, All-end}
use Rattle.round_states.specs.declared.states.LinkBoard.{LinkBoard}
use Rattle.round_decisions.proofs.decisions.law_of_boards.Goals as goal

pub loop-board-preserved : goal.loop-board-preserved
loop-board-preserved c =
    All-step (λ (b : LinkBoard). IsForecast b.forecast) c.args.boards.now c.loop-board.board-index c.board-item.result c.loop-board-test.true c.board-item.is c.loop-board.invariant
    c.rows.ensures.forecast

pub returns : goal.returns
returns c = All-end (λ (b : LinkBoard). IsForecast b.forecast) c.args.boards.now c.loop-board.board-index c.loop-board-test.false c.loop-board.invariant
