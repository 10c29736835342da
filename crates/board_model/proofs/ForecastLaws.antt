-- A forecast with one row more.
use Rattle.std.proofs.Common.{◌<◌, List, [], ◌∷◌, ◌++◌, length, arith}
use Rattle.std.proofs.lemmas.List.{map-append, length_push}
use Rattle.std.proofs.lemmas.List.Elements.{All-push}
use Rattle.board_model.specs.declared.forecasts.Row.{Row}
use Rattle.board_model.specs.Forecasts.{IsAboveLast, IsRow, IsForecast, seconds}
use Rattle.board_model.proofs.LastOf.{rising-more}

-- a forecast with one more lawful row is a forecast
pub IsForecast-more : (rows : List Row) (row : Row) → IsForecast rows → length rows < 180 → IsAboveLast (seconds rows) row.second → IsRow row → IsForecast (rows ++ row ∷ [])
IsForecast-more rows row forecast room above lawful = record {
  few = omega (arith, length_push rows row);
  rising = rw map-append (rising-more (seconds rows) row.second forecast.rising above);
  each = All-push IsRow rows row forecast.each lawful;
}
