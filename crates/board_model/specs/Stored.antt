-- What a log keeps beside its events. No public clause names these definitions.
use Rattle.std.specs.Prelude.{◌≡◌, ℕ, ◌≤◌, List, [], slice_get, slice_index_or}
use Rattle.std.specs.Option.{option_map_or}
use Rattle.board_model.specs.declared.forecasts.Row.{Row}
use Rattle.board_model.specs.declared.boards.BoardEvent.{BoardEvent}
use Rattle.board_model.specs.Boards.{IsLegal, most_versions, published_by, version_of, newest}

-- the forecast that the event at this place publishes; the empty one where none does
abbrev pub published_at : List BoardEvent → ℕ → List Row
published_at events place =
    option_map_or (λ event. slice_index_or (published_by event.kind) 0 []) (slice_get events place) []

-- a legal log, beside which stand how many forecasts were published, and the place of the newest
pub record IsStored (events : List BoardEvent) (version place : ℕ) : Type 0 where
  pub legal : IsLegal events
  pub counted : version ≡ version_of events
  pub few : version ≤ most_versions
  pub found : published_at events place ≡ newest events
