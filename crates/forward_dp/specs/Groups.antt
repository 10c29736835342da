-- One step of a table: what is reached from rows with the same counts by the next cluster of one phase.
use Rattle.std.specs.Prelude.{◌≡◌, ℕ, ◌+◌, ◌*◌, ◌^◌, ◌<◌, ◌≤◌, ◌⊎◌, ◌++◌, Bool, true, false, List, [], AllPairs, All, Contains, length, slice_get, slice_index, slice_index_or, Option, Some, None, Ok}
use Rattle.phase_plan.specs.Phases.{phase_at}
use Rattle.switch_rules.specs.Serving.{serving}
use Rattle.switch_rules.specs.Bounds.{latest_time}
use Rattle.switch_rules.specs.declared.Cluster.{Cluster}
use Rattle.switch_rules.specs.declared.Served.{Served}
use Rattle.schedule_meaning.specs.Instances.{Problem, IsInstance, list_at}
use Rattle.dp_certificate.specs.Prefixes.{stage_after}
use Rattle.dp_certificate.specs.Certificates.{IsEntry, head_of, no_entry}
use Rattle.dp_certificate.specs.NextEntry.{stage_of_next}
use Rattle.dp_certificate.specs.Limits.{IsWithin}
use Rattle.dp_certificate.specs.Proves.{stage_of_entry}
use Rattle.forward_dp.specs.Greens.{IsNewGreen}
use Rattle.forward_dp.specs.Rows.{AreBestOf, AreLater, IsNoWorse, IsPlaced, row_in, time_of}
use Rattle.forward_dp.specs.declared.groups.Reached.{Reached}
use Rattle.forward_dp.specs.declared.rows.Row.{Row}

-- what stands where there is no row
abbrev pub no_row : Row
no_row = record { entry = no_entry; order = 0 }

-- the row at this place, from 0
abbrev pub row_at : List Row → ℕ → Row
row_at rows place = slice_index_or rows place no_row

-- rows of an instance after each of which this cluster is the next of phase k: entries within their bounds; of those with one green
-- phase the later ones stand after the others; and either each green is fresh or none
pub record IsSource (p : Problem) (k : ℕ) (cluster : Cluster) (source : List Row) : Type 0 where
  pub lawful : IsInstance p
  pub entries : All (λ r. IsEntry p r.entry) source
  pub orders : All (λ r. r.order < 4 ^ 40) source
  pub next : All (λ r. slice_get (list_at p.lists k) (slice_index r.entry.counts k) ≡ Some cluster) source
  pub later : AllPairs (λ a b. a.entry.phase ≡ b.entry.phase → time_of a < time_of b) source
  pub fresh : AllPairs (λ a b. (stage_of_entry p a.entry).head.fresh ≡ (stage_of_entry p b.entry).head.fresh) source

-- a row is reached from one of the first n rows when this cluster of phase k is served next, in the green that stands or
-- in a new one, and is within the limit
pub record IsArrival (p : Problem) (limit : Option ℕ) (k : ℕ) (cluster : Cluster) (source : List Row) (n : ℕ)
    (kept : Bool) (c : Row) : Type 0 where
  pub place : ℕ
  pub first : place < n
  pub inside : place < length source
  pub served : Served
  pub serves : serving p.plan (stage_of_entry p (row_at source place).entry).head k cluster
      ≡ Ok (served, head_of c.entry false)
  pub on : served.kept ≡ kept
  pub leads : stage_after p (stage_of_entry p (row_at source place).entry) k ≡ Some (stage_of_next c.entry)
  pub order : c.order ≡ (row_at source place).order * 4 + k
  pub reach : c.entry.at ≤ latest_time
  pub within : IsWithin p limit (stage_of_next c.entry)

-- a row in one of the places has this time, and is no worse
pub record HasPlaced (places : List (Option Row)) (time delay order : ℕ) : Type 0 where
  pub place : ℕ
  pub row : Row
  pub there : row_in places place ≡ Some row
  pub time_is : time_of row ≡ time
  pub no_worse : IsNoWorse row delay order

-- the best of what the first n rows reach: in greens that go on, and in new greens by how long the cluster waits
pub record AreReachedBy (p : Problem) (limit : Option ℕ) (k : ℕ) (cluster : Cluster) (source : List Row) (n : ℕ)
    (reached : Reached) : Type 0 where
  pub kept_later : AreLater reached.kept.items
  pub kept_best : AreBestOf (IsArrival p limit k cluster source n true) reached.kept.items
  pub new_from : (w : ℕ) (r : Row) → row_in reached.greens w ≡ Some r
      → IsArrival p limit k cluster source n false r × IsNewGreen (phase_at p.plan k) cluster w (head_of r.entry false)
  pub new_all : (c : Row) → IsArrival p limit k cluster source n false c
      → HasPlaced reached.greens (time_of c) c.entry.delay c.order
  pub fresh : reached.fresh.items ≡ []

-- nothing is reached
pub record IsEmpty (reached : Reached) : Type 0 where
  pub kept : reached.kept.items ≡ []
  pub greens : (w : ℕ) → row_in reached.greens w ≡ None
  pub fresh : reached.fresh.items ≡ []

-- after the rows stand, in the order of their times, the best of what is reached
pub record AreJoined (reached : Reached) (old new : List Row) : Type 0 where
  pub made : List Row
  pub is : new ≡ old ++ made
  pub later : AreLater made
  pub best : AreBestOf (λ c. IsPlaced reached.greens c ⊎ Contains reached.kept.items c) made

-- after the rows stand, in the order of their times, the best of what is reached from the source
pub record AreMade (p : Problem) (limit : Option ℕ) (k : ℕ) (cluster : Cluster)
    (source old new : List Row) : Type 0 where
  pub made : List Row
  pub is : new ≡ old ++ made
  pub later : AreLater made
  pub best : AreBestOf (λ c. (kept : Bool) × IsArrival p limit k cluster source (length source) kept c) made
