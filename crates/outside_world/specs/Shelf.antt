-- What a shelf holds, and what a fetch does to its list of failed names. Names and contents are lists of bytes.
use Rattle.std.specs.Prelude.{◌≡◌, ℕ, List, [], ◌∷◌, ◌++◌, Option, find, take}
use Rattle.std.specs.Option.{option_map}
use Rattle.std.specs.Str.{bytes_eq}

-- the files that a shelf exposes, each a name and a content
abbrev pub Files : Type 0
Files = Option (List (List ℕ × List ℕ))

-- a shelf as contracts see it: its files, where it exposes them, and the names whose fetch failed, the oldest first
pub record ShelfState : Type 0 where
  pub files : Files
  pub failed : List (List ℕ)

-- the content of the file with this name, the first where there are several
abbrev pub file_of : List (List ℕ × List ℕ) → List ℕ → Option (List ℕ)
file_of files name = option_map (λ file. file.1) (find (λ file. bytes_eq file.0 name) files)

-- the file with this name, or as much of its front as may be taken
abbrev pub front_of : List (List ℕ × List ℕ) → List ℕ → ℕ → Option (List ℕ)
front_of files name most = option_map (λ content. take most content) (file_of files name)

-- the new list of failed names begins with the old one
abbrev pub Continues : List (List ℕ) → List (List ℕ) → Type 0
Continues old new = (more : List (List ℕ)) × (new ≡ old ++ more)

-- the list of failed names has grown, and this name is its last
abbrev pub GainsLast : List (List ℕ) → List (List ℕ) → List ℕ → Type 0
GainsLast old new name = (more : List (List ℕ)) × (new ≡ old ++ more ++ name ∷ [])
