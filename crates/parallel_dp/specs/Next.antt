-- No public clause names these: what is next by one phase, and where an entry is put.
use Rattle.std.specs.Prelude.{◌≡◌, ℕ, ◌<◌, ◌⊎◌, List, [], ◌∷◌, length, Some}
use Rattle.schedule_meaning.specs.Instances.{Problem}
use Rattle.dp_certificate.specs.Certificates.{IsBefore, digits_of, entry_at}
use Rattle.dp_certificate.specs.Prefixes.{Stage, stage_after}
use Rattle.dp_certificate.specs.Proves.{key_of_entry, stage_of_entry}
use Rattle.dp_certificate.specs.declared.Entry.{Entry}
use Rattle.parallel_dp.specs.Pieces.{AreLeastOf, IsJoinOf}

-- a fit serving of this phase from one of the first n entries leads to this stage
pub record IsReachedBy (p : Problem) (entries : List Entry) (n k : ℕ) (s : Stage) : Type 0 where
  pub place : ℕ
  pub first : place < n
  pub inside : place < length entries
  pub leads : stage_after p (stage_of_entry p (entry_at entries place)) k ≡ Some s

-- what is next after the first n entries by this phase
abbrev pub AreReachedBy : Problem → List Entry → ℕ → ℕ → List Entry → Type 0
AreReachedBy p entries n k next = AreLeastOf (IsReachedBy p entries n k) next

-- an entry with this key stands at this place
pub record HasKeyAt (entries : List Entry) (key : Entry) (place : ℕ) : Type 0 where
  pub inside : place < length entries
  pub same : key_of_entry (entry_at entries place) ≡ key_of_entry key

-- what stands at this place, if anything, has a later key
abbrev pub HasNoKeyAt : List Entry → Entry → ℕ → Type 0
HasNoKeyAt entries key place = place < length entries → IsBefore (digits_of key) (digits_of (entry_at entries place))

-- an entry is put into one of two lists, and the other stays
abbrev pub IsPutInEither : List Entry → List Entry → Entry → List Entry → List Entry → Type 0
IsPutInEither kept anew e new_kept new_anew =
    (IsJoinOf kept (e ∷ []) new_kept × (new_anew ≡ anew)) ⊎ ((new_kept ≡ kept) × IsJoinOf anew (e ∷ []) new_anew)
