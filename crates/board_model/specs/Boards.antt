-- The log of a board, as contracts see it.
use Rattle.std.specs.Prelude.{◌≡◌, ℕ, ◌+◌, nat_le, filter, List, [], ◌∷◌, ◌++◌, length, map, take, IfSome, ⊤, slice_get, slice_index_or}
use Rattle.std.specs.List.{flat_map}
use Rattle.std.specs.List.Sorted.{IsStrictlyIncreasing}
use Rattle.board_model.specs.declared.forecasts.Row.{Row}
use Rattle.board_model.specs.declared.boards.BoardEvent.{BoardEvent}
use Rattle.board_model.specs.declared.boards.BoardKind.{BoardKind}
use Rattle.board_model.specs.declared.boards.BoardKind.TheVariants.{Read, Publish}

-- a log has no more versions published
abbrev pub most_versions : ℕ
most_versions = 4000000000

-- the events of a log, and for how many further ones memory is reserved
pub record Log : Type 0 where
  pub events : List BoardEvent
  pub spare : ℕ

-- the stamps of the events
abbrev pub stamps : List BoardEvent → List ℕ
stamps events = map (λ event. event.stamp) events

-- what an event publishes: a forecast, or nothing
abbrev pub published_by : BoardKind → List (List Row)
published_by (Read version) = []
published_by (Publish forecast) = forecast ∷ []

-- the forecasts that the events publish, in their order
abbrev pub published : List BoardEvent → List (List Row)
published events = flat_map (λ event. published_by event.kind) events

-- the newest version: how many forecasts were published
abbrev pub version_of : List BoardEvent → ℕ
version_of events = length (published events)

-- the forecast of a version: of 0 the empty one, of k the k-th that was published
abbrev pub forecast_of : List BoardEvent → ℕ → List Row
forecast_of events version = slice_index_or ([] ∷ published events) version []

-- the forecast of the newest version
abbrev pub newest : List BoardEvent → List Row
newest events = forecast_of events (version_of events)

-- where it is a Read, it carries this version
abbrev pub IsReadOf : ℕ → BoardKind → Type 0
IsReadOf version (Read read) = read ≡ version
IsReadOf version (Publish forecast) = ⊤

-- the stamps rise strictly, and each Read carries the number of Publishes before it
pub record IsLegal (events : List BoardEvent) : Type 0 where
  pub rising : IsStrictlyIncreasing (stamps events)
  pub reads : (k : ℕ) → IfSome (slice_get events k) (λ event. IsReadOf (version_of (take k events)) event.kind)

-- the events with one more: a node read the newest version
abbrev pub after_read : List BoardEvent → ℕ → ℕ → List BoardEvent
after_read events stamp node = events ++ record { stamp = stamp; node = node; kind = Read (version_of events) } ∷ []

-- the events with one more: a node published this forecast
abbrev pub after_publish : List BoardEvent → ℕ → ℕ → List Row → List BoardEvent
after_publish events stamp node forecast = events ++ record { stamp = stamp; node = node; kind = Publish forecast } ∷ []

-- the version that stands once the event at this place has happened: the one that it read, or made
abbrev pub version_at : List BoardEvent → ℕ → ℕ
version_at events place = version_of (take (place + 1) events)

-- what the event at this place tells: a Read carries that version, and the forecast of a Publish is that version's
abbrev pub Tells : List BoardEvent → ℕ → BoardKind → Type 0
Tells events place (Read version) = version ≡ version_at events place
Tells events place (Publish forecast) = forecast ≡ forecast_of events (version_at events place)

-- the events up to a stamp
abbrev pub up_to : ℕ → List BoardEvent → List BoardEvent
up_to stamp events = filter (λ event. nat_le event.stamp stamp) events
