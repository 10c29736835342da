-- The requests that lines are: those of a state, and one that ends them and says whom it asks.
use Rattle.std.specs.Prelude.{◌≡◌, ◌==◌, ℕ, List, [], ◌∷◌, ◌++◌, Option, Some, None, All, codes, drop, if◌then◌else◌, take, ◌⊎◌}
use Rattle.std.specs.Io.BufRead.{strip_last}
use Rattle.std.specs.List.{concat, flat_map, slice_split}
use Rattle.std.specs.Str.{bytes_eq}
use Rattle.outside_world.specs.Source.{Comes, SourceState}

-- the lines came one after another
abbrev pub AllCome : SourceState → List (List ℕ) → SourceState → Type 0
AllCome old [] new = new ≡ old
AllCome old (line ∷ rest) new = (next : SourceState) × Comes old next line × AllCome next rest new

-- a line is `end`, or begins with `end` and a comma
abbrev pub IsEnd : List ℕ → Type 0
IsEnd line = (take 4 line ≡ codes "end\n") ⊎ (take 4 line ≡ codes "end,") ⊎ (take 4 line ≡ codes "end")

-- a line is `next`
abbrev pub IsNext : List ℕ → Type 0
IsNext line = (take 5 line ≡ codes "next\n") ⊎ (take 5 line ≡ codes "next")

-- a line ends a request: it is `end` or `next`, or begins with `end` and a comma
abbrev pub EndsRequest : List ℕ → Type 0
EndsRequest line = IsEnd line ⊎ IsNext line

-- the names in the line that ends a request, with commas between them, where it has any: what is after `end,`, but for the line feed
abbrev pub names_after_end : List ℕ → Option (List ℕ)
names_after_end line = if bytes_eq (take 4 line) (codes "end,") then Some (strip_last 10 (drop 4 line)) else None

-- what is between commas
abbrev pub names_in : List ℕ → List (List ℕ)
names_in named = slice_split (λ byte. byte == 44) named

-- whom a request asks: all nodes; all nodes, where the records that were told last come after those of its text; or the nodes with these names
pub data Asks : Type 0 where
  OfAll : Asks
  OfNext : Asks
  OfNames : List (List ℕ) → Asks

-- the nodes with the names that the line that ends a request has, or else all
abbrev pub by_names : Option (List ℕ) → Asks
by_names None = OfAll
by_names (Some named) = OfNames (names_in named)

-- whom the line that ends a request asks
abbrev pub asked_by : List ℕ → Asks
asked_by line = if bytes_eq (take 4 line) (codes "next") then OfNext else by_names (names_after_end line)

-- a request: the lines of a state, and the line that ends it
pub record Request : Type 0 where
  pub lines : List (List ℕ)
  pub last : List ℕ

-- none of its lines ends a request but the last
pub record IsRequest (request : Request) : Type 0 where
  pub lines : All (λ line. ¬ EndsRequest line) request.lines
  pub last : EndsRequest request.last

-- the text of a request's state
abbrev pub text_of : Request → List ℕ
text_of request = concat request.lines

-- all lines of a request
abbrev pub lines_of : Request → List (List ℕ)
lines_of request = request.lines ++ request.last ∷ []

-- these lines are requests, and the others after them are none
pub record AreRequests (lines : List (List ℕ)) (requests : List Request) (others : List (List ℕ)) : Type 0 where
  pub are : lines ≡ flat_map lines_of requests ++ others
  pub each : All IsRequest requests
  pub rest : All (λ line. ¬ EndsRequest line) others
