-- The frame of a fault in a text of records: its header, and the first record after it that is at fault.
use Rattle.std.specs.Prelude.{◌≡◌, ℕ, ◌+◌, List, ◌∷◌, ◌++◌, length}

-- the first record is this header, and this holds of the others
pub record HasAfterHeader {X : Type 0} (header : X) (all : List X) (holds : List X → Type 0) : Type 0 where
  pub records : List X
  pub are : all ≡ header ∷ records
  pub after : holds records

-- The element with this number, counted from 1, is the first at fault: those before it are read, as `so_far`, and `at_fault`
-- holds of that and of the element.
pub record IsFirstFault {X S : Type 0} (read_as : List X → S → Type 0) (all : List X) (number : ℕ)
    (at_fault : S → X → Type 0) : Type 0 where
  pub before : List X
  pub here : X
  pub after : List X
  pub are : all ≡ before ++ here ∷ after
  pub counted : number ≡ length before + 1
  pub so_far : S
  pub reads : read_as before so_far
  pub faulty : at_fault so_far here
