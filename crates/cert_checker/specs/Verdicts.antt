-- What the checker answers, and why a certificate does not prove its answer: the first reason, in a fixed order.
use Rattle.std.specs.Prelude.{◌≡◌, ◌≢◌, ℕ, ◌-◌, ◌<◌, ◌≤◌, List, length, take, All, Some}
use Rattle.schedule_meaning.specs.Instances.{Problem}
use Rattle.schedule_meaning.specs.Timing.{delay_of}
use Rattle.schedule_meaning.specs.Faults.{IsSeqFault}
use Rattle.schedule_meaning.specs.declared.planners.Answer.{Answer}
use Rattle.schedule_meaning.specs.declared.planners.Answer.TheVariants.{Plan, NoPlan}
use Rattle.schedule_meaning.specs.declared.faults.SeqFault.{SeqFault}
use Rattle.dp_certificate.specs.Certificates.{Claim, entry_at}
use Rattle.dp_certificate.specs.Proves.{HasRoot, IsClosed, IsClosedAt, IsEnded, IsPlanned}
use Rattle.dp_certificate.specs.declared.Entry.{Entry}
use Rattle.cert_checker.specs.declared.Verdict.{Verdict}
use Rattle.cert_checker.specs.declared.Verdict.TheVariants.{Accepted, Rejected}
use Rattle.cert_checker.specs.declared.Why.{Why}
use Rattle.cert_checker.specs.declared.Why.TheVariants.{Sequence, Delay, NoRoot, Open, Cheaper}

-- the claimed sequence is not feasible, and this is its first fault
abbrev pub IsClaimFault : Problem → Answer → SeqFault → Type 0
IsClaimFault p (Plan sequence delay) fault = IsSeqFault p sequence fault
IsClaimFault p NoPlan fault = ⊥

-- the claimed sequence is feasible, with a delay that is not the claimed one
abbrev pub IsClaimedOtherwise : Problem → Answer → ℕ → ℕ → Type 0
IsClaimedOtherwise p (Plan sequence delay) said is = (said ≡ delay) × (delay_of p sequence ≡ Some is) × (said ≢ is)
IsClaimedOtherwise p NoPlan said is = ⊥

-- the entry with this number, from 1, is the first of which this does not hold
abbrev pub IsFirstNot : (Entry → Type 0) → List Entry → ℕ → Type 0
IsFirstNot P entries n =
    (1 ≤ n) × (n - 1 < length entries) × All P (take (n - 1) entries) × ¬ P (entry_at entries (n - 1))

-- phase k is the least at which an entry is not closed
abbrev pub IsOpenAt : Claim → Entry → ℕ → Type 0
IsOpenAt c e k = ((j : ℕ) → j < k → IsClosedAt c e j) × ¬ IsClosedAt c e k

-- why a certificate does not prove its answer: the first of the claimed plan's fault, its other delay, that the first stage
-- is no entry with no delay, the first entry that is not closed with its least such phase, and the first entry at the end that
-- undercuts the answer; entries are numbered from 1
abbrev pub IsWhy : Claim → Why → Type 0
IsWhy c (Sequence fault) = IsClaimFault c.problem c.answer fault
IsWhy c (Delay said is) = IsClaimedOtherwise c.problem c.answer said is
IsWhy c NoRoot = IsPlanned c.problem c.answer × ¬ HasRoot c
IsWhy c (Open entry phase) =
    IsPlanned c.problem c.answer × HasRoot c × IsFirstNot (IsClosed c) c.entries entry
    × IsOpenAt c (entry_at c.entries (entry - 1)) phase
IsWhy c (Cheaper entry) =
    IsPlanned c.problem c.answer × HasRoot c × All (IsClosed c) c.entries × IsFirstNot (IsEnded c) c.entries entry

-- this holds of the reason, where there is one
abbrev pub IfRejected : Verdict → (Why → Type 0) → Type 0
IfRejected Accepted P = Unit {0}
IfRejected (Rejected why) P = P why
