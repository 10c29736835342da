use Rattle.std.proofs.Common.{ℕ, ◌+◌, ◌<◌}
use Rattle.dp_certificate.specs.Certificates.{IsBefore, digits_of, entry_at}
use Rattle.dp_certificate.proofs.certificates.first_low.Given as goal

-- the keys so far rise
abbrev pub invariant-loop-index : goal.invariant-loop-index
invariant-loop-index l = (k : ℕ) → k + 1 < l.index → IsBefore (digits_of (entry_at l.entries k)) (digits_of (entry_at l.entries (k + 1)))
