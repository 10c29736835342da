use Rattle.std.proofs.Common.{get_or, sym, subst}
use Rattle.board_model.specs.Forecasts.{IsAboveLast, seconds}
use Rattle.round_states.proofs.BoardLaws.{above-next, no_row}
use Rattle.round_states.proofs.boards.forecast.Goals as goal

pub push-requires-clause-above : goal.push-requires-clause-above
push-requires-clause-above c =
    subst (λ l. IsAboveLast (seconds l) (get_or c.args.rows.now c.loop-row.row-index no_row).second) (sym c.loop-row.invariant) (above-next c.args.rows.now c.requires.rising c.loop-row.row-index c.loop-row-test.true)
