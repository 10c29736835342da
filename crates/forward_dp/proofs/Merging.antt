-- The first rows of a list.
use Rattle.std.proofs.Common.{◌≡◌, ℕ, ◌<◌, List, length, get_or}
use Rattle.forward_dp.specs.declared.rows.Row.{Row}

-- one of the first this many rows
pub record IsAmongFirst (rows : List Row) (count : ℕ) (r : Row) : Type 0 where
  pub place : ℕ
  pub first : place < count
  pub inside : place < length rows
  pub there : get_or rows place r ≡ r
