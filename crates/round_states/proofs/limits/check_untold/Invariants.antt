use Rattle.std.proofs.Common.{ℕ, ◌<◌}
use Rattle.round_states.specs.Texts.{IsUntold}
use Rattle.round_states.proofs.limits.check_untold.Given as goal

-- on the links so far none has told
abbrev pub invariant-loop-link : goal.invariant-loop-link
invariant-loop-link l = (k : ℕ) → k < l.link → IsUntold l.net l.asked l.entries k
