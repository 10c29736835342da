-- Factors by which a command scales arrivals.
use Rattle.std.specs.Prelude.{ℕ, ◌-◌, ◌/◌, ◌^◌, ◌<◌, ◌≤◌}
use Rattle.arrivals.specs.Scaling.{greatest_factor}

-- the words of a command may name these factors: there are at most 20
pub record AreFactors (first last step : ℕ) : Type 0 where
  pub ordered : first ≤ last
  pub most : last ≤ greatest_factor
  pub apart : 1 ≤ step
  pub bits : step < 2 ^ 32
  pub few : (last - first) / step < 20
