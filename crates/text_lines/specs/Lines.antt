-- Lines of words, and the first line of a text that has not the form of its place.
use Rattle.std.specs.Prelude.{◌≡◌, ℕ, ◌+◌, ◌==◌, List, [], ◌∷◌, ◌++◌, count_by}
use Rattle.std.specs.List.{join_with_byte}

-- the words with one space between each two, and a line feed
abbrev pub line : List (List ℕ) → List ℕ
line words = join_with_byte 32 words ++ 10 ∷ []

-- how many lines end in the bytes
unfoldable pub line_feeds : List ℕ → ℕ
line_feeds bytes = count_by (λ c. c == 10) bytes

-- Line n is the first that has not the form of its place, where the first line has the number `first`. The lines before it
-- begin some text of the format (`Begins`); with line n they begin nothing of the kind (`BeginsLonger`, which may let
-- something follow the text).
pub record IsFirstFaultyLine (Begins BeginsLonger : List ℕ → Type 0) (first n : ℕ) (bytes : List ℕ) : Type 0 where
  pub front : List ℕ
  pub rest : List ℕ
  pub parts : bytes ≡ front ++ rest
  pub number : first + line_feeds front ≡ n
  pub begins : Begins front
  pub ends : (longer more : List ℕ) → bytes ≡ longer ++ more → first + line_feeds longer ≡ n + 1 → ¬ BeginsLonger longer
