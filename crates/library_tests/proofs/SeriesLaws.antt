-- Sums of short series.
use Rattle.std.proofs.Common.{◌≤◌, ◌<◌, ℕ, List, All, length, sum, ◌^◌, arith}
use Rattle.std.proofs.lemmas.List.Sums.{sum_by-le}

-- a short series of small amounts
pub short_sum : (xs : List ℕ) → All (λ x. x ≤ 10000) xs → length xs ≤ 100 → sum xs < 2 ^ 32
short_sum xs h le = omega (arith, sum_by-le (λ x. x) 10000 xs h)
