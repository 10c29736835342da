-- What each step on a word tells its caller.
use Rattle.std.specs.Prelude.{◌≡◌, ℕ, ◌-◌, ◌<◌, ◌≤◌, ◌==◌, Bool, true, false, Some, None, List, ◌∷◌, All}
use Rattle.atomic_table.specs.Table.{Me, Step, rest}
use Rattle.board_model.specs.declared.forecasts.Row.{Row}
use Rattle.board_model.specs.declared.boards.BoardEvent.{BoardEvent}
use Rattle.board_model.specs.declared.calls.Call.{Call}
use Rattle.board_model.specs.Forecasts.{IsAboveLast}
use Rattle.board_model.specs.Boards.{most_versions, stamps, version_of, forecast_of}
use Rattle.board_model.specs.Calls.{calls_at}
use Rattle.link_boards.specs.declared.views.View.{View}
use Rattle.link_boards.specs.Views.{calls_of, link_in, is_drawn, events_in, flight, flying, drew_read, drew_publish}

-- a seat's view, and the slots that it holds
abbrev pub Hand : Type 0 → Type 0
Hand S = Me S View

-- a call that was made at a link: its version is none later than those of the events, which still have its forecast
abbrev pub IsPast : List BoardEvent → Call → Type 0
IsPast events call = (call.version ≤ version_of events) × (call.forecast ≡ forecast_of events call.version)

-- what holds after a draw: the call had not drawn yet; the stamp is above all that the pass knew, and above all stamps of the log; the
-- log has fewer versions than it may have; and it has the versions and forecasts of the pass's own earlier calls at the link
pub record HasDrawn (v : View) (stamp : ℕ) : Type 0 where
  pub once : is_drawn v.flight ≡ false
  pub known : v.known ≤ stamp
  pub above : IsAboveLast (stamps (events_in v.flight)) stamp
  pub few : version_of (events_in v.flight) < most_versions
  pub past : All (IsPast (events_in v.flight)) (calls_at (link_in v.flight) (calls_of v.entries))

module _ {S : Type 0} where
  -- the stamp was drawn, by a reading, and by a publishing of this forecast, and the view is that after it
  abbrev pub draws_read : Step S → Hand S → ℕ → Hand S → Type 0
  draws_read s m found n = HasDrawn m.0 found × (n ≡ (drew_read m.0 found, m.1))

  abbrev pub draws_publish : List Row → Step S → Hand S → ℕ → Hand S → Type 0
  draws_publish forecast s m found n = HasDrawn m.0 found × (n ≡ (drew_publish forecast m.0 found, m.1))

  -- no call is in flight any more, and the slot goes home
  abbrev pub gives_turn : Step S → Hand S → ℕ → Hand S → Type 0
  gives_turn s m found n = n ≡ (flying m.0 None, rest m.1)

  module _ (stands : S → List BoardEvent → Type 0) where
    -- the word was 0: the call is in flight, undrawn, and the slot came into the hand, with the log that the link stands
    -- for. Or nothing changed
    abbrev pub Takes : ℕ → Hand S → Hand S → Bool → Type 0
    Takes link m n true =
        (slot : S) × (log : List BoardEvent) × stands slot log
        × (n ≡ (flying m.0 (Some (flight link false log)), (link, slot) ∷ m.1))
    Takes link m n false = n ≡ m

    abbrev pub takes_turn : Step S → Hand S → ℕ → Hand S → Type 0
    takes_turn s m found n = Takes (s.word - 1) m n (found == 0)
