-- For callers: what may follow in a forecast or a log, and what later events leave.
use Rattle.std.proofs.Common.{◌≡◌, ℕ, ◌+◌, ◌<◌, ◌≤◌, List, [], ◌∷◌, ◌++◌, length, ap, ◌∙◌, arith}
use Rattle.std.specs.Prelude.{slice_index_or}
use Rattle.std.proofs.lemmas.List.{get_or_append_left, length_push, map-append}
use Rattle.std.proofs.lemmas.List.Concat.{flat_map-append}
use Rattle.board_model.specs.declared.forecasts.Row.{Row}
use Rattle.board_model.specs.declared.boards.BoardEvent.{BoardEvent}
use Rattle.board_model.specs.Forecasts.{IsAboveLast, seconds}
use Rattle.board_model.specs.Boards.{published, version_of, forecast_of, after_read, after_publish}
use Rattle.board_model.proofs.LastOf.{IsAboveLast-more}
use Rattle.board_model.proofs.LogLaws.{published-read, published-publish}

-- after a row may follow what is above it
pub above-row : (rows : List Row) (row : Row) (second : ℕ) → row.second < second → IsAboveLast (seconds (rows ++ row ∷ [])) second
above-row rows row second below = rw map-append (IsAboveLast-more (seconds rows) row.second second below)

-- a Read leaves the newest version
pub version_of-read : (events : List BoardEvent) (stamp node : ℕ) → version_of (after_read events stamp node) ≡ version_of events
version_of-read events stamp node = ap length (published-read events stamp node (version_of events))

-- a Publish makes the version after
pub version_of-publish : (events : List BoardEvent) (stamp node : ℕ) (forecast : List Row) → version_of (after_publish events stamp node forecast) ≡ version_of events + 1
version_of-publish events stamp node forecast = ap length (published-publish events stamp node forecast) ∙ length_push (published events) forecast

-- later events leave the forecast of each version that was there
pub forecast_of-kept : (events later : List BoardEvent) (version : ℕ) → version ≤ version_of events → forecast_of (events ++ later) version ≡ forecast_of events version
forecast_of-kept events later version there =
    ap (λ (all : List (List Row)). slice_index_or ([] ∷ all) version []) (flat_map-append _ events later)
    ∙ get_or_append_left ([] ∷ published events) (published later) [] version (omega arith)
