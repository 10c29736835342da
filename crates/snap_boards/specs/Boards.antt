-- The boards, as contracts see them.
use Rattle.std.specs.Prelude.{◌≡◌, ◌≢◌, ℕ, ◌<◌, Option, Some, None, List, All, IfSome, slice_index_or}
use Rattle.std.specs.Option.{option_map}
use Rattle.atomic_table.specs.Seated.{TableId}
use Rattle.link_boards.specs.Passes.{BoardsView}
use Rattle.snap_boards.specs.declared.ends.Ends.{Ends}

-- which boards they are, how many links they have, how many passes, and the ends of each link
pub record SnapBoardsView : Type 0 where
  pub id : TableId
  pub links : ℕ
  pub passes : ℕ
  pub ends : List (Option Ends)

abbrev pub snap_boards_view : BoardsView → List (Option Ends) → SnapBoardsView
snap_boards_view boards ends = record { id = boards.id; links = boards.links; passes = boards.passes; ends = ends }

-- the same boards as those of any form
abbrev pub shared_of : SnapBoardsView → BoardsView
shared_of boards = record { id = boards.id; links = boards.links; passes = boards.passes }

-- the writer and the reader of a link are two of the passes
pub record AreEnds (passes : ℕ) (ends : Ends) : Type 0 where
  pub writer : ends.writer < passes
  pub reader : ends.reader < passes
  pub apart : ends.writer ≢ ends.reader

-- this is so of each link that has ends
abbrev pub AreAllEnds : ℕ → List (Option Ends) → Type 0
AreAllEnds passes ends = All (λ (e : Option Ends). IfSome e (AreEnds passes)) ends

-- the ends of a link; none where it has none
abbrev pub ends_at : List (Option Ends) → ℕ → Option Ends
ends_at ends link = slice_index_or ends link None

-- the pass with this number is the one that reads the link, and the one that publishes on it
abbrev pub IsReader : List (Option Ends) → ℕ → ℕ → Type 0
IsReader ends link number = option_map (λ (e : Ends). e.reader) (ends_at ends link) ≡ Some number

abbrev pub IsWriter : List (Option Ends) → ℕ → ℕ → Type 0
IsWriter ends link number = option_map (λ (e : Ends). e.writer) (ends_at ends link) ≡ Some number
