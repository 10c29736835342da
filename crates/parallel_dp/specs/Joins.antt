-- No public clause names these: how far two lists are joined.
use Rattle.std.specs.Prelude.{ℕ, ◌<◌, ◌≤◌, List, length, take, All}
use Rattle.dp_certificate.specs.Certificates.{AreRising, IsBefore, digits_of, entry_at}
use Rattle.dp_certificate.specs.Proves.{HasEntry, key_of_entry}
use Rattle.dp_certificate.specs.declared.Entry.{Entry}
use Rattle.parallel_dp.specs.Pieces.{IsOfEither}

-- the key of an entry is before that of another
abbrev pub Precedes : Entry → Entry → Type 0
Precedes a b = IsBefore (digits_of a) (digits_of b)

-- an entry has one in a list with its key and no more delay
abbrev pub IsCoveredBy : List Entry → Entry → Type 0
IsCoveredBy joined e = HasEntry joined (key_of_entry e) e.delay

-- of one list, the entries before a place are joined, and what is joined has keys before the entry there
pub record IsJoinedTo (entries joined : List Entry) (place : ℕ) : Type 0 where
  pub within : place ≤ length entries
  pub covered : All (IsCoveredBy joined) (take place entries)
  pub below : place < length entries → All (λ x. Precedes x (entry_at entries place)) joined

-- how far two lists are joined
pub record IsJoining (a b : List Entry) (left right : ℕ) (joined : List Entry) : Type 0 where
  pub rising : AreRising joined
  pub each : All (IsOfEither a b) joined
  pub first : IsJoinedTo a joined left
  pub second : IsJoinedTo b joined right

-- here, after this place, the entries before a key end
pub record EndsBefore (entries : List Entry) (place : ℕ) (key : Entry) (end : ℕ) : Type 0 where
  pub past : place < end
  pub within : end ≤ length entries
  pub before : (k : ℕ) → k < end → Precedes (entry_at entries k) key
