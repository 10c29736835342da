-- Where a key is among entries.
use Rattle.std.specs.Prelude.{ℕ, ◌-◌, ◌<◌, ◌≤◌, List, length}
use Rattle.dp_certificate.specs.Certificates.{IsBefore, digits_of, entry_at}
use Rattle.dp_certificate.specs.declared.Entry.{Entry}

-- an entry with this key, if there is one, is from low to high: the keys below are before it, and those from high
-- on are not
pub record IsSpan (entries : List Entry) (key : Entry) (low high : ℕ) : Type 0 where
  pub rise : low ≤ high
  pub within : high ≤ length entries
  pub below : 0 < low → IsBefore (digits_of (entry_at entries (low - 1))) (digits_of key)
  pub here : high < length entries → ¬ IsBefore (digits_of (entry_at entries high)) (digits_of key)

-- the one place of a key among entries
abbrev pub IsPlace : List Entry → Entry → ℕ → Type 0
IsPlace entries key place = IsSpan entries key place place
