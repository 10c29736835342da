use Rattle.std.proofs.Common.{rules, get_or, sym, subst, refl}
use Rattle.std.specs.Prelude.{List}
use Rattle.board_model.specs.declared.forecasts.Row.{Row}
use Rattle.board_model.specs.Forecasts.{IsAboveLast, IsForecast, seconds}
use Rattle.snap_boards.proofs.Rows.{next-above}
use Rattle.snap_boards.proofs.copies.copied.Goals as goal

pub add_row-requires-clause-above : goal.add_row-requires-clause-above
add_row-requires-clause-above g c =
    let rows : List Row = c.rows-rows.result.now in
    let k = c.loop-k.k in
    let d : Row = record { second = 0; amount = 0 } in
    let forecast : IsForecast rows = subst IsForecast (sym c.rows-rows.ensures.value) c.rows-rows.ensures.forecast in
    subst (λ (front : List Row). IsAboveLast (seconds front) (get_or rows k d).second) (sym c.loop-k.invariant) (next-above rows k (get_or rows k d) d forecast.rising (search rules) refl)
