-- What the fields of the code stand for. No public clause names these definitions.
use Rattle.std.specs.Prelude.{◌≡◌, ℕ, ◌≤◌, List, length, sum_by}

-- the steps of a round and those that are left of it, with their sums
pub record IsStored (rounds done : ℕ) (steps : List ℕ) (whole : ℕ) (left : List ℕ) (whole_left : ℕ) : Type 0 where
  pub most : done ≤ rounds
  pub long : length left ≡ length steps
  pub all_steps : whole ≡ sum_by (λ c. c) steps
  pub all_left : whole_left ≡ sum_by (λ c. c) left
