use Rattle.std.proofs.Common.{◌≡◌, ℕ, ◌<◌, length, get_or}
use Rattle.schedule_meaning.specs.Instances.{list_at}
use Rattle.dp_certificate.proofs.next_entry.is_all_served.Given as goal

-- the phases so far have nothing left
abbrev pub invariant-loop-phase : goal.invariant-loop-phase
invariant-loop-phase l = (k : ℕ) → k < l.phase → get_or l.counts k 0 ≡ length (list_at l.i.lists k)
