-- Rows of a table: their times, which is better, and what a list of rows keeps of some candidates.
use Rattle.std.specs.Prelude.{◌≡◌, ◌≢◌, ℕ, ◌+◌, ◌*◌, ◌<◌, ◌≤◌, ◌⊎◌, List, AllPairs, All, Contains, Option, Some, None, IfSome, length, slice_index_or}
use Rattle.forward_dp.specs.declared.rows.Row.{Row}

-- a row has less delay than this, or the same and no later order
abbrev pub IsNoWorse : Row → ℕ → ℕ → Type 0
IsNoWorse r delay order = (r.entry.delay < delay) ⊎ ((r.entry.delay ≡ delay) × (r.order ≤ order))

-- since when the green of a row lasts, and then up to when its time is spent, as one number
abbrev pub time_of : Row → ℕ
time_of r = r.entry.since * 4294967296 + r.entry.at

-- each row is later than the one before it
abbrev pub AreLater : List Row → Type 0
AreLater rows = AllPairs (λ a b. time_of a < time_of b) rows

-- one of the rows has this time, and is no worse
pub record HasRow (rows : List Row) (time delay order : ℕ) : Type 0 where
  pub row : Row
  pub among : Contains rows row
  pub time_is : time_of row ≡ time
  pub no_worse : IsNoWorse row delay order

-- the rows keep of some candidates the best for each time
pub record AreBestOf (Candidate : Row → Type 0) (rows : List Row) : Type 0 where
  pub from : All Candidate rows
  pub all : (c : Row) → Candidate c → HasRow rows (time_of c) c.entry.delay c.order

-- no row has a later time
abbrev pub AreUpTo : ℕ → List Row → Type 0
AreUpTo time rows = All (λ r. time_of r ≤ time) rows

-- the row in one of some places
abbrev pub row_in : List (Option Row) → ℕ → Option Row
row_in places k = slice_index_or places k None

-- rows in places, none outside of a span
pub record ArePlaced (places : List (Option Row)) (first end : ℕ) : Type 0 where
  pub within : end ≤ length places
  pub below : (k : ℕ) → k < first → row_in places k ≡ None
  pub above : (k : ℕ) → end ≤ k → row_in places k ≡ None

-- a row was offered to a place: one of it and the row there stays, which is no worse than either
pub record IsOffered (old new : List (Option Row)) (place : ℕ) (row : Row) : Type 0 where
  pub stays : Row
  pub there : row_in new place ≡ Some stays
  pub from : (stays ≡ row) ⊎ (row_in old place ≡ Some stays)
  pub no_worse : IsNoWorse stays row.entry.delay row.order
  pub keeps : IfSome (row_in old place) (λ r. IsNoWorse stays r.entry.delay r.order)
  pub others : (k : ℕ) → k ≢ place → row_in new k ≡ row_in old k

-- a row in a later place is later
abbrev pub AreRisingPlaces : List (Option Row) → Type 0
AreRisingPlaces places =
    (j k : ℕ) (a b : Row) → j < k → row_in places j ≡ Some a → row_in places k ≡ Some b → time_of a < time_of b

-- one of the rows in places
abbrev pub IsPlaced : List (Option Row) → Row → Type 0
IsPlaced places r = (k : ℕ) × (row_in places k ≡ Some r)
