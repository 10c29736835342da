-- What a seat knows, and what each step makes of it.
use Rattle.std.specs.Prelude.{ℕ, ◌+◌, ◌-◌, max, Bool, true, false, Option, Some, None, List, [], ◌∷◌, ◌++◌}
use Rattle.std.specs.Option.{option_map_or}
use Rattle.board_model.specs.declared.forecasts.Row.{Row}
use Rattle.board_model.specs.declared.boards.BoardEvent.{BoardEvent}
use Rattle.board_model.specs.declared.calls.Call.{Call}
use Rattle.board_model.specs.Boards.{most_versions, version_of, newest, after_read, after_publish}
use Rattle.link_boards.specs.declared.views.Entry.{Entry}
use Rattle.link_boards.specs.declared.views.Flight.{Flight}
use Rattle.link_boards.specs.declared.views.View.{View}
use Rattle.link_boards.specs.declared.views.Terms.{Terms}

-- the pass with this number has made these calls
abbrev pub entry : ℕ → List Call → Entry
entry number calls = record { number = number; calls = calls }

-- a call is in flight at the link, has drawn its stamp or not, and the link stands for these events
abbrev pub flight : ℕ → Bool → List BoardEvent → Flight
flight link drawn events = record { link = link; drawn = drawn; events = events }

-- the number and the calls of the pass itself, which stand first
abbrev pub number_of : List Entry → ℕ
number_of [] = 0
number_of (own ∷ others) = own.number

abbrev pub calls_of : List Entry → List Call
calls_of [] = []
calls_of (own ∷ others) = own.calls

-- one call more of the pass itself
abbrev pub push_call : List Entry → Call → List Entry
push_call [] call = []
push_call (own ∷ others) call = entry own.number (own.calls ++ call ∷ []) ∷ others

-- of the call in flight: its link, whether it has drawn, and the log that the link stands for
abbrev pub link_in : Option Flight → ℕ
link_in f = option_map_or (λ flight. flight.link) f 0

abbrev pub is_drawn : Option Flight → Bool
is_drawn f = option_map_or (λ flight. flight.drawn) f false

abbrev pub events_in : Option Flight → List BoardEvent
events_in f = option_map_or (λ flight. flight.events) f []

-- the view with another flight
abbrev pub flying : View → Option Flight → View
flying v f = record { known = v.known; left = v.left; entries = v.entries; flight = f; deals = v.deals; made = v.made }

-- the view after a draw: the next stamp is above, one call left less, the call added to the pass's calls and to the log
abbrev pub drew : View → ℕ → Call → List BoardEvent → View
drew v stamp call after = record {
  known = stamp + 1;
  left = v.left - 1;
  entries = push_call v.entries call;
  flight = Some (flight (link_in v.flight) true after);
  deals = v.deals;
  made = v.made;
}

-- the calls that draw at a link with these events: a reading of the newest version, and a publishing of the next one
abbrev pub read_call : ℕ → ℕ → List BoardEvent → Call
read_call link stamp events =
    record { link = link; stamp = stamp; publishes = false; version = version_of events; forecast = newest events }

abbrev pub publish_call : ℕ → ℕ → List BoardEvent → List Row → Call
publish_call link stamp events forecast =
    record { link = link; stamp = stamp; publishes = true; version = version_of events + 1; forecast = forecast }

-- the view after the draw of a reading, and of a publishing
abbrev pub drew_read : View → ℕ → View
drew_read v stamp =
    drew v stamp (read_call (link_in v.flight) stamp (events_in v.flight))
    (after_read (events_in v.flight) stamp (number_of v.entries))

abbrev pub drew_publish : List Row → View → ℕ → View
drew_publish forecast v stamp =
    drew v stamp (publish_call (link_in v.flight) stamp (events_in v.flight) forecast)
    (after_publish (events_in v.flight) stamp (number_of v.entries) forecast)

-- the first view: pass 0, which makes the others, and has all calls that are left
abbrev pub first_view : Terms → View
first_view terms =
    record { known = 0; left = most_versions; entries = entry 0 [] ∷ []; flight = None; deals = true; made = 1 }

-- pass 0 after a pass with these calls was made, and that pass
abbrev pub dealt : ℕ → View → View
dealt calls v =
    record {
      known = v.known;
      left = v.left - calls;
      entries = v.entries;
      flight = v.flight;
      deals = v.deals;
      made = v.made + 1;
    }

abbrev pub newcomer : ℕ → View → View
newcomer calls v =
    record { known = 0; left = calls; entries = entry v.made [] ∷ []; flight = None; deals = false; made = 0 }

-- a courier of what the view knows
abbrev pub courier : View → View
courier v = record { known = v.known; left = 0; entries = []; flight = None; deals = false; made = 0 }

-- what a seat that was taken in is left with
abbrev pub spent : View
spent = record { known = 0; left = 0; entries = []; flight = None; deals = false; made = 0 }

-- the view that heard what the other knows
abbrev pub informed : View → View → View
informed v w =
    record {
      known = max v.known w.known;
      left = v.left;
      entries = v.entries;
      flight = v.flight;
      deals = v.deals;
      made = v.made;
    }

-- the view that took in an ended pass
abbrev pub ended : View → View → View
ended v w =
    record {
      known = v.known;
      left = v.left + w.left;
      entries = v.entries ++ w.entries;
      flight = v.flight;
      deals = v.deals;
      made = v.made;
    }
