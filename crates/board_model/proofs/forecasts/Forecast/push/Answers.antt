use Rattle.board_model.proofs.ForecastLaws.{IsForecast-more}
use Rattle.board_model.proofs.forecasts.Forecast.push.Goals as goal

pub invariant_of-self-2 : goal.invariant_of-self-2
invariant_of-self-2 c =
    rw c.in_ok-push.ensures.items (IsForecast-more _ _ c.self.invariant (rw c.self.view_is c.requires.few) (rw c.self.view_is c.requires.above) c.requires.row)

pub returns-clause-forecast : goal.returns-clause-forecast
returns-clause-forecast c = invariant_of-self-2 c
