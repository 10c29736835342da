-- The sequence in order of arrival, and its delay.
use Rattle.std.specs.Prelude.{◌≡◌, ℕ, ◌<◌, ◌≤◌, List, [], ◌∷◌, length, slice_index, Option}
use Rattle.switch_rules.specs.Arriving.{ComesFirst}
use Rattle.schedule_meaning.specs.Instances.{Problem, cluster_at, list_at}
use Rattle.schedule_meaning.specs.Timing.{delay_of}
use Rattle.dp_certificate.specs.Prefixes.{first_stage, one_more}

-- when the cluster at this place of phase k's list arrives
abbrev pub arrival : Problem → ℕ → ℕ → ℕ
arrival p k place = (cluster_at (list_at p.lists k) place).arr

-- after these counts of served clusters the next one of phase k comes before all that are left
pub record ComesNext (p : Problem) (counts : List ℕ) (k : ℕ) : Type 0 where
  pub some : slice_index counts k < length (list_at p.lists k)
  pub first : (j place : ℕ) → slice_index counts j ≤ place → place < length (list_at p.lists j)
      → ComesFirst (arrival p k (slice_index counts k)) k (arrival p j place) j

-- after these counts of served clusters a sequence serves all that are left, each before those that come after it
abbrev pub GoesByArrival : Problem → List ℕ → List ℕ → Type 0
GoesByArrival p counts [] = (k : ℕ) → length (list_at p.lists k) ≤ slice_index counts k
GoesByArrival p counts (k ∷ ks) = ComesNext p counts k × GoesByArrival p (one_more counts k) ks

-- the sequence in order of arrival: it serves all clusters in the order of their arrival, those that arrive together in the
-- order of their phases, and those of one phase in the order of their list
abbrev pub IsByArrival : Problem → List ℕ → Type 0
IsByArrival p sequence = GoesByArrival p (first_stage p).counts sequence

-- the delay of the sequence in order of arrival; none where it is not feasible
pub record IsArrivalDelay (p : Problem) (limit : Option ℕ) : Type 0 where
  pub sequence : List ℕ
  pub order : IsByArrival p sequence
  pub delay : limit ≡ delay_of p sequence
