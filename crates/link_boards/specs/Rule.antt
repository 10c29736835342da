-- The rule of the boards, which holds of the table at every moment.
use Rattle.std.specs.Prelude.{◌≡◌, ◌≢◌, ℕ, ◌+◌, ◌<◌, ◌≤◌, true, Option, Some, None, List, [], ◌∷◌, length, map, All, slice_index}
use mathlib.Core.Option.{some}
use lib.ListN.{get_elem?}
use Rattle.atomic_table.specs.Table.{State}
use Rattle.board_model.specs.declared.boards.BoardEvent.{BoardEvent}
use Rattle.board_model.specs.declared.calls.Call.{Call}
use Rattle.board_model.specs.Boards.{IsLegal, most_versions}
use Rattle.board_model.specs.Calls.{calls_at, event_of, events_by, Agrees}
use Rattle.link_boards.specs.declared.views.Entry.{Entry}
use Rattle.link_boards.specs.declared.views.Flight.{Flight}
use Rattle.link_boards.specs.declared.views.View.{View}
use Rattle.link_boards.specs.declared.views.Terms.{Terms}
use Rattle.link_boards.specs.Views.{number_of}

-- f of each view, added up
abbrev pub total : (View → ℕ) → List View → ℕ
total f [] = 0
total f (v ∷ vs) = f v + total f vs

-- a link's log is legal and below the next stamp, has just the calls of the passes there, and agrees with them
pub record IsLogged (now : ℕ) (history : ℕ → List Call) (link : ℕ) (log : List BoardEvent) : Type 0 where
  pub legal : IsLegal log
  pub below : All (λ event. event.stamp < now) log
  pub tied : (number : ℕ) → events_by number log ≡ map (event_of number) (calls_at link (history number))
  pub agrees : (number : ℕ) → All (Agrees log) (calls_at link (history number))

-- the seat stands for the number of the entry, whose calls these are
abbrev pub Owns : (ℕ → Option ℕ) → (ℕ → List Call) → ℕ → Entry → Type 0
Owns owner history seat own = (owner own.number ≡ Some seat) × (history own.number ≡ own.calls)

-- no seat stands for the number, and it has no calls
abbrev pub IsUnmade : (ℕ → Option ℕ) → (ℕ → List Call) → ℕ → Type 0
IsUnmade owner history number = (owner number ≡ None) × (history number ≡ [])

-- the call in flight of a seat with these entries has the turn of its link, and the log that the link stands for
pub record IsFlying (words : List ℕ) (logs : ℕ → List BoardEvent) (entries : List Entry) (f : Flight) : Type 0 where
  pub turn : slice_index words (f.link + 1) ≡ number_of entries + 1
  pub log : f.events ≡ logs f.link
  pub numbered : 1 ≤ length entries

-- the seat that makes the passes is the first, and all but those that it has made are unmade
pub record IsDealing (terms : Terms) (owner : ℕ → Option ℕ) (history : ℕ → List Call) (seat made : ℕ) : Type 0 where
  pub first : seat ≡ 0
  pub most : made ≤ terms.passes
  pub unmade : (number : ℕ) → made ≤ number → IsUnmade owner history number

-- what a seat knows holds
pub record IsSeated (terms : Terms) (words : List ℕ) (logs : ℕ → List BoardEvent) (owner : ℕ → Option ℕ)
    (history : ℕ → List Call) (seat : ℕ) (v : View) : Type 0 where
  pub known : v.known ≤ slice_index words 0
  pub owns : All (Owns owner history seat) v.entries
  pub flies : (f : Flight) → v.flight ≡ Some f → IsFlying words logs v.entries f
  pub deals : v.deals ≡ true → IsDealing terms owner history seat v.made

-- S is what a slot holds, and stands says for which log it stands
module _ {S : Type 0} (stands : S → List BoardEvent → Type 0) where
  -- where no seat has the turn, the slot is at home with the log that the link stands for; else a seat has it
  pub record IsLinked (s : State S View) (log : List BoardEvent) (link : ℕ) : Type 0 where
    pub free : slice_index s.words (link + 1) ≡ 0
        → (slot : S) × (get_elem? s.homes link ≡ some (some slot)) × stands slot log
    pub taken : slice_index s.words (link + 1) ≢ 0
        → (seat : ℕ) × (v : View) × (f : Flight) × (get_elem? s.views seat ≡ some v) × (v.flight ≡ Some f)
        × (f.link ≡ link)

  -- a link stands for one log, a number for one seat, and each number has made these calls
  pub record Holds (terms : Terms) (s : State S View) : Type 0 where
    pub logs : ℕ → List BoardEvent
    pub owner : ℕ → Option ℕ
    pub history : ℕ → List Call
    pub unmade : (number : ℕ) → terms.passes ≤ number → IsUnmade owner history number
    pub unlinked : (link : ℕ) → length s.homes ≤ link → logs link ≡ []
    pub wide : length s.words ≡ length s.homes + 1
    pub counted : slice_index s.words 0 + total (λ v. v.left) s.views ≡ most_versions
    pub seats : (seat : ℕ) (v : View) → get_elem? s.views seat ≡ some v
        → IsSeated terms s.words logs owner history seat v
    pub links : (link : ℕ) → link < length s.homes → IsLinked s (logs link) link
    pub logged : (link : ℕ) → IsLogged (slice_index s.words 0) history link (logs link)
