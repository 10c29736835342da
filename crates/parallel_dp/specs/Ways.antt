-- No public clause names these: which entries lead to the least delay, layer by layer from the end back.
use Rattle.std.specs.Prelude.{◌≡◌, ℕ, ◌+◌, ◌<◌, ◌≤◌, List, [], length, slice_index_or, sum, All, Contains, Some}
use Rattle.schedule_meaning.specs.Instances.{Problem, counts_of}
use Rattle.dp_certificate.specs.Certificates.{AreRising}
use Rattle.dp_certificate.specs.NextEntry.{stage_of_next}
use Rattle.dp_certificate.specs.Prefixes.{Stage, stage_after, stage_from, stage_of}
use Rattle.dp_certificate.specs.Proves.{stage_of_entry}
use Rattle.dp_certificate.specs.declared.Entry.{Entry}
use Rattle.schedule_meaning.specs.Timing.{delay_of}
use Rattle.forward_dp.specs.Numbers.{order_number}
use Rattle.parallel_dp.specs.Pieces.{IsLayer}

-- this many lists, of each of which this holds at its place
pub record AreEach (Holds : ℕ → List Entry → Type 0) (n : ℕ) (lists : List (List Entry)) : Type 0 where
  pub long : length lists ≡ n
  pub each : (k : ℕ) → k < n → Holds k (slice_index_or lists k [])

-- the layers of fewer servings than these, one after the other
abbrev pub AreLayers : Problem → ℕ → List (List Entry) → Type 0
AreLayers p n lists = AreEach (IsLayer p) n lists

-- how many servings there are in all
abbrev pub servings_of : Problem → ℕ
servings_of p = sum (counts_of p.lists)

-- the least delay of prefixes that serve all
pub record IsLeastDelay (p : Problem) (delay : ℕ) : Type 0 where
  pub prefix : List ℕ
  pub stage : Stage
  pub leads : stage_of p prefix ≡ Some stage
  pub long : length prefix ≡ servings_of p
  pub reached : stage.delay ≡ delay
  pub least : (u : List ℕ) (s : Stage) → stage_of p u ≡ Some s → length u ≡ servings_of p → delay ≤ s.delay

-- by this many servings more a stage comes to this delay
pub record ComesTo (p : Problem) (delay left : ℕ) (s : Stage) : Type 0 where
  pub rest : List ℕ
  pub end : Stage
  pub leads : stage_from p s rest ≡ Some end
  pub long : length rest ≡ left
  pub reached : end.delay ≡ delay

-- the entries that come to this delay by this many servings more, which are the last ones
pub record AreWays (p : Problem) (delay left : ℕ) (ways : List Entry) : Type 0 where
  pub rising : AreRising ways
  pub each : All (λ e. ComesTo p delay left (stage_of_entry p e)) ways
  pub all : (u : List ℕ) (s : Stage) → stage_of p u ≡ Some s → length u + left ≡ servings_of p → ComesTo p delay left s
      → (e : Entry) × Contains ways e × (stage_of_entry p e ≡ s)

-- for each number of servings below one, the entries that come to this delay by as many more, which are the last ones
abbrev pub AreAllWays : Problem → ℕ → ℕ → List (List Entry) → Type 0
AreAllWays p delay n lists = AreEach (AreWays p delay) n lists

-- a phase leads from an entry to one of these
abbrev pub LeadsInto : Problem → List Entry → Entry → ℕ → Entry → Type 0
LeadsInto p ways e k x = (stage_after p (stage_of_entry p e) k ≡ Some (stage_of_next x)) × Contains ways x

-- no phase below a number leads from an entry to one of these
abbrev pub NoneLeads : Problem → List Entry → Entry → ℕ → Type 0
NoneLeads p ways e n = (k : ℕ) (x : Entry) → k < n → LeadsInto p ways e k x → ⊥

-- this is the first phase that leads from an entry to one of these, and where it leads
pub record IsFirstWay (p : Problem) (ways : List Entry) (e : Entry) (k : ℕ) (x : Entry) : Type 0 where
  pub phase : k < length p.plan
  pub leads : LeadsInto p ways e k x
  pub first : NoneLeads p ways e k

-- an entry of no more than a delay from which a phase leads to one of these
pub record IsOnWay (p : Problem) (delay : ℕ) (ways : List Entry) (e : Entry) : Type 0 where
  pub low : e.delay ≤ delay
  pub phase : ℕ
  pub next : Entry
  pub leads : LeadsInto p ways e phase next

-- those entries of a layer of which this holds
pub record AreThose (Holds : Entry → Type 0) (layer some : List Entry) : Type 0 where
  pub rising : AreRising some
  pub each : All (λ e. Contains layer e × Holds e) some
  pub all : (e : Entry) → Contains layer e → Holds e → Contains some e

-- a sequence of this delay, before which no other of this delay comes in lexicographic order
pub record IsFirstBest (p : Problem) (sequence : List ℕ) (delay : ℕ) : Type 0 where
  pub feasible : delay_of p sequence ≡ Some delay
  pub first : (other : List ℕ) → delay_of p other ≡ Some delay → order_number sequence ≤ order_number other
