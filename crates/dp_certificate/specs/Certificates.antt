-- Certificates: an instance, an answer, and entries that are to prove the answer; and what makes one well formed.
use Rattle.std.specs.Prelude.{◌≡◌, ℕ, ◌+◌, ◌<◌, ◌≤◌, ◌⊎◌, Bool, false, List, [], ◌∷◌, ◌++◌, length, All, slice_index, slice_index_or}
use Rattle.switch_rules.specs.Bounds.{greatest_delay, latest_time}
use Rattle.switch_rules.specs.Serving.{IsHead}
use Rattle.switch_rules.specs.declared.Head.{Head}
use Rattle.schedule_meaning.specs.Instances.{Problem, IsInstance, list_at}
use Rattle.schedule_meaning.specs.declared.planners.Answer.{Answer}
use Rattle.dp_certificate.specs.declared.Entry.{Entry}

-- an instance with an answer and entries
pub record Claim : Type 0 where
  pub problem : Problem
  pub entries : List Entry
  pub answer : Answer

-- the head of an entry, with this freshness
abbrev pub head_of : Entry → Bool → Head
head_of e fresh = record { phase = e.phase; since = e.since; at = e.at; fresh = fresh }

-- an entry within its bounds; a phase past the last has no clusters
pub record IsEntry (p : Problem) (e : Entry) : Type 0 where
  pub counts : (k : ℕ) → slice_index e.counts k ≤ length (list_at p.lists k)
  pub head : IsHead p.plan (head_of e false)
  pub reach : e.at ≤ latest_time
  pub delay : e.delay ≤ greatest_delay

-- what an entry is sorted by
abbrev pub digits_of : Entry → List ℕ
digits_of e = e.counts ++ e.phase ∷ e.since ∷ e.at ∷ []

-- of two lists of numbers, the first number that differs is less in this one
abbrev pub IsBefore : List ℕ → List ℕ → Type 0
IsBefore [] ys = ⊥
IsBefore (x ∷ xs) [] = ⊥
IsBefore (x ∷ xs) (y ∷ ys) = (x < y) ⊎ ((x ≡ y) × IsBefore xs ys)

-- what stands where a list has no entry
abbrev pub no_entry : Entry
no_entry = record { counts = 0 ∷ 0 ∷ 0 ∷ 0 ∷ []; phase = 0; since = 0; at = 0; delay = 0 }

-- the entry at this index, from 0
abbrev pub entry_at : List Entry → ℕ → Entry
entry_at entries index = slice_index_or entries index no_entry

-- each entry's key is above the key before it
abbrev pub AreRising : List Entry → Type 0
AreRising entries =
    (k : ℕ) → k + 1 < length entries → IsBefore (digits_of (entry_at entries k)) (digits_of (entry_at entries (k + 1)))

-- a certificate: an instance, and entries within their bounds that rise; whether they prove the answer is another matter
pub record IsCertificate (c : Claim) : Type 0 where
  pub instance : IsInstance c.problem
  pub bounds : All (IsEntry c.problem) c.entries
  pub rising : AreRising c.entries
