use Rattle.std.proofs.Common.{ℕ, ◌<◌}
use Rattle.round_states.specs.Texts.{IsSensedOnce}
use Rattle.round_states.proofs.senses.check_senses.Given as goal

-- what is sensed of the links so far is told once
abbrev pub invariant-loop-link : goal.invariant-loop-link
invariant-loop-link l = (k : ℕ) → k < l.link → IsSensedOnce l.entries k
