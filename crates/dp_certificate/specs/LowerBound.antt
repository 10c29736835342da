-- What is left at the least, as a linear bound over the seconds between two arrivals.
use Rattle.std.specs.Prelude.{◌≡◌, ℕ, ◌+◌, ◌*◌, ◌≤◌}
use Rattle.switch_rules.specs.Bounds.{greatest_load, latest_arrival, latest_time, most_clusters}
use Rattle.schedule_meaning.specs.Instances.{Problem}
use Rattle.dp_certificate.specs.Proves.{rest_of}
use Rattle.dp_certificate.specs.declared.lower_bound.LinearCost.{LinearCost}
use Rattle.dp_certificate.specs.declared.lower_bound.RemainingCost.{RemainingCost}

-- what is left of one phase costs no more for each second: 40 clusters of the greatest load
abbrev pub most_steepness : ℕ
most_steepness = greatest_load * most_clusters

-- the offset of what is left of one phase is no greater: such clusters, each times the latest arrival
abbrev pub most_offset : ℕ
most_offset = most_steepness * latest_arrival

-- what is left of four phases costs no more by the latest time
abbrev pub most_rest : ℕ
most_rest = most_steepness * 4 * latest_time

-- at each second of the linear bound what it says is the cost
abbrev pub IsLinear : (ℕ → ℕ) → LinearCost → Type 0
IsLinear cost line = (t : ℕ) → line.from ≤ t → t ≤ line.to → cost t + line.offset ≡ line.steepness * t

-- the linear bound is no steeper, and its offset no greater, than the clusters of this many phases make it
pub record IsShallow (phases : ℕ) (line : LinearCost) : Type 0 where
  pub steepness : line.steepness ≤ most_steepness * phases
  pub offset : line.offset ≤ most_offset * phases

-- what is left of some counts, at the seconds of a linear bound
pub record IsRemainingCost (p : Problem) (remaining : RemainingCost) : Type 0 where
  pub line : IsLinear (λ t. rest_of p remaining.counts t) remaining.line
  pub small : IsShallow 4 remaining.line
