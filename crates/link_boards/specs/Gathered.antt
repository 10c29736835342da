-- What a pass and the boards are in the table, and on the way to opened and closed boards. No public clause names these.
use Rattle.std.specs.Prelude.{◌≡◌, ℕ, ◌+◌, ◌<◌, ◌≤◌, true, Some, None, List, [], ◌∷◌, length, map, All, IfSome, slice_get}
use Rattle.atomic_table.specs.Seated.{TableId}
use Rattle.atomic_table.specs.Table.{Me}
use Rattle.board_model.specs.declared.boards.BoardEvent.{BoardEvent}
use Rattle.board_model.specs.Boards.{IsLegal}
use Rattle.board_model.specs.Calls.{calls_at, event_of, events_by, Agrees}
use Rattle.link_boards.specs.declared.views.Entry.{Entry}
use Rattle.link_boards.specs.declared.views.Terms.{Terms}
use Rattle.link_boards.specs.declared.views.View.{View}
use Rattle.link_boards.specs.Views.{calls_of, entry}
use Rattle.link_boards.specs.Passes.{PassView, AreInOrder, calls_in}

-- the table of boards: a word more than there are slots
pub record AreBoards (id : TableId) (key : Terms) (links passes : ℕ) : Type 0 where
  pub words : id.words ≡ links + 1
  pub slots : id.slots ≡ links
  pub terms : key.passes ≡ passes
  pub some : 1 ≤ passes

-- what contracts see of a pass of a seat
abbrev pub pass_view : TableId → View → ℕ → ℕ → PassView
pass_view id v number left =
    record { boards = id; number = number; left = left; known = v.known; calls = calls_of v.entries }

-- a seat between two calls, with one number, and no fewer calls left than the pass says
pub record IsPass {S : Type 0} (me : Me S View) (number left : ℕ) : Type 0 where
  pub empty : me.1 ≡ []
  pub landed : me.0.flight ≡ None
  pub own : me.0.entries ≡ entry number (calls_of me.0.entries) ∷ []
  pub enough : left ≤ me.0.left
  pub order : AreInOrder me.0.known (calls_of me.0.entries)

-- pass 0 while the others are made
pub record IsDealer (made : ℕ) (v : View) : Type 0 where
  pub deals : v.deals ≡ true
  pub next : v.made ≡ made
  pub known : v.known ≡ 0
  pub flight : v.flight ≡ None
  pub entries : v.entries ≡ entry 0 [] ∷ []

-- a seat between two calls, with no calls left
pub record IsCourier {S : Type 0} (me : Me S View) : Type 0 where
  pub empty : me.1 ≡ []
  pub landed : me.0.flight ≡ None
  pub none-left : me.0.left ≡ 0

-- one of the entries
abbrev pub Has : List Entry → Entry → Type 0
Has entries entry = (k : ℕ) × (slice_get entries k ≡ Some entry)

-- a seat that has all passes from a number on
pub record HasPasses {S : Type 0} (from : ℕ) (passes : List PassView) (me : Me S View) : Type 0 where
  pub empty : me.1 ≡ []
  pub landed : me.0.flight ≡ None
  pub has : (k : ℕ) → from ≤ k → IfSome (slice_get passes k) (λ p. Has me.0.entries (entry k p.calls))

-- the log of the passes' calls at a link, which agrees with them
pub record IsClosed (passes : List PassView) (link : ℕ) (log : List BoardEvent) : Type 0 where
  pub legal : IsLegal log
  pub nodes : All (λ event. event.node < length passes) log
  pub tied : (number : ℕ) → events_by number log ≡ map (event_of number) (calls_at link (calls_in passes number))
  pub agrees : (number : ℕ) → All (Agrees log) (calls_at link (calls_in passes number))
