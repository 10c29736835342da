-- No public clause names these: where a key stands among entries.
use Rattle.std.specs.Prelude.{◌≡◌, ℕ, ◌<◌, ◌≤◌, ◌⊎◌, List, length}
use Rattle.dp_certificate.specs.Certificates.{Claim, entry_at}
use Rattle.dp_certificate.specs.NextEntry.{stage_of_next}
use Rattle.dp_certificate.specs.Proves.{HasEntry, IsTooDear, key_of_entry}
use Rattle.dp_certificate.specs.declared.Entry.{Entry}

-- what is served next, written as an entry, has the key of an entry of no more delay, or is too dear
abbrev pub IsMet : Claim → Entry → Type 0
IsMet c next = HasEntry c.entries (key_of_entry next) next.delay ⊎ IsTooDear c.problem c.answer (stage_of_next next)

-- at this place an entry has the key of another and at most its delay
pub record StandsAt (entries : List Entry) (place : ℕ) (next : Entry) : Type 0 where
  pub inside : place < length entries
  pub key : key_of_entry (entry_at entries place) ≡ key_of_entry next
  pub delay : (entry_at entries place).delay ≤ next.delay
