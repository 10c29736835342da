-- The first at which a fact fails: among numbers, in a list, and in an order of ranks.
use Rattle.std.specs.Prelude.{◌≡◌, ℕ, ◌-◌, ◌<◌, ◌≤◌, List, take, slice_get, All, Some}

-- the fact holds of each number before this one, and not of this one, which is below the count
pub record IsFirstWithout (fact : ℕ → Type 0) (count number : ℕ) : Type 0 where
  pub below : number < count
  pub before : (k : ℕ) → k < number → fact k
  pub here : ¬ fact number

-- the element at this index, from 0, is the first of the list that is not good: those before it are, and it is at fault
pub record IsFirstAt {X : Type 0} (good at_fault : X → Type 0) (xs : List X) (index : ℕ) : Type 0 where
  pub element : X
  pub there : slice_get xs index ≡ Some element
  pub before : All good (take index xs)
  pub here : at_fault element

-- the element at this index, from 0, is the first of which the fact does not hold
abbrev pub IsFirstNot : {X : Type 0} → (X → Type 0) → List X → ℕ → Type 0
IsFirstNot good xs index = IsFirstAt good (λ x. ¬ good x) xs index

-- this holds of the index, from 0, that belongs to a number counted from 1
pub record FromOne (place : ℕ → Type 0) (number : ℕ) : Type 0 where
  pub from_one : 1 ≤ number
  pub at : place (number - 1)

-- the fact does not hold of this, and holds of all that come before it in the order of their ranks
pub record IsFirstOfRanks {X : Type 0} (rank : X → ℕ) (fact : X → Type 0) (x : X) : Type 0 where
  pub earlier : (y : X) → rank y < rank x → fact y
  pub here : ¬ fact x
