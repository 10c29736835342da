-- A shelf in memory, as contracts see it.
use Rattle.std.specs.Prelude.{ℕ, List, Some, Contains, IsNone, ◌⊎◌}
use Rattle.outside_world.specs.Shelf.{ShelfState, file_of}

-- the files by name, the numbers of the calls that fail, how many calls there were, the names whose fetch failed
pub record ShelfInMemory : Type 0 where
  pub files : List (List ℕ × List ℕ)
  pub fails : List ℕ
  pub calls : ℕ
  pub failed : List (List ℕ)

-- what any shelf shows of itself
abbrev pub shelf_seen : ShelfInMemory → ShelfState
shelf_seen shelf = record { files = Some shelf.files; failed = shelf.failed }

-- the call of this number fails for this name: it is one of those named, or the name is absent
abbrev pub FailsAt : ShelfInMemory → ℕ → List ℕ → Type 0
FailsAt shelf call name = Contains shelf.fails call ⊎ IsNone (file_of shelf.files name)
