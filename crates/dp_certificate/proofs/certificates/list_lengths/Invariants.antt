use Rattle.std.proofs.Common.{◌≡◌, ℕ, ◌<◌, ◌≤◌, length, get_or}
use Rattle.schedule_meaning.specs.Instances.{list_at}
use Rattle.dp_certificate.proofs.certificates.list_lengths.Given as goal

-- the lists so far are measured, and the others are not
abbrev pub invariant-loop-phase : goal.invariant-loop-phase
invariant-loop-phase l = record {
  places : length l.lengths ≡ 4;
  each : (k : ℕ) → k < l.phase → get_or l.lengths k 0 ≡ length (list_at l.i.lists k);
  others : (k : ℕ) → l.phase ≤ k → get_or l.lengths k 0 ≡ 0;
}
