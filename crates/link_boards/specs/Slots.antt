-- For which log a slot stands, whatever it is, and what a reading of it sees.
use Rattle.std.specs.Prelude.{◌≡◌, ℕ, List}
use Rattle.board_model.specs.declared.boards.BoardEvent.{BoardEvent}
use Rattle.board_model.specs.declared.boards.Seen.{Seen}
use Rattle.board_model.specs.declared.forecasts.Row.{Row}
use Rattle.board_model.specs.Boards.{Log}

-- the events of its log, and it is settled
abbrev pub stands_for : {S : Type 0} → (S → Log) → (S → Type 0) → S → List BoardEvent → Type 0
stands_for log settled slot events = (events ≡ (log slot).events) × settled slot

-- a version with its forecast, at a stamp
abbrev pub seen_of : ℕ → ℕ → List Row → Seen
seen_of version stamp f = record { version = version; stamp = stamp; forecast = f }
