-- Why parts make no certificate: the first fault, in a fixed order.
use Rattle.std.specs.Prelude.{ℕ, ◌-◌, ◌<◌, ◌≤◌, List, length, take, All}
use Rattle.schedule_meaning.specs.Instances.{Problem}
use Rattle.dp_certificate.specs.Certificates.{Claim, IsEntry, IsBefore, AreRising, digits_of, entry_at}
use Rattle.dp_certificate.specs.declared.Entry.{Entry}
use Rattle.dp_certificate.specs.declared.certificates.CertFault.{CertFault}
use Rattle.dp_certificate.specs.declared.certificates.CertFault.TheVariants as fault

-- the entry at this index is the first out of its bounds
abbrev pub IsFirstOut : Problem → List Entry → ℕ → Type 0
IsFirstOut p entries index =
    (index < length entries) × All (IsEntry p) (take index entries) × ¬ IsEntry p (entry_at entries index)

-- the entry at this index is the first whose key is not above the key before it
abbrev pub IsFirstLow : List Entry → ℕ → Type 0
IsFirstLow entries index =
    (1 ≤ index) × (index < length entries) × AreRising (take index entries)
    × ¬ IsBefore (digits_of (entry_at entries (index - 1))) (digits_of (entry_at entries index))

-- why an instance, entries and an answer are no certificate: the first entry out of its bounds, or else the first whose
-- key is not above the key before it
abbrev pub IsCertFault : Claim → CertFault → Type 0
IsCertFault c (fault.Entry n) = (1 ≤ n) × IsFirstOut c.problem c.entries (n - 1)
IsCertFault c (fault.Order n) = All (IsEntry c.problem) c.entries × (1 ≤ n) × IsFirstLow c.entries (n - 1)
