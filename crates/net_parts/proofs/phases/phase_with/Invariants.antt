use Rattle.std.proofs.Common.{◌≡◌, ℕ, ◌<◌, false, [], get_or}
use Rattle.net_parts.specs.Numbers.{has_link}
use Rattle.net_parts.proofs.phases.phase_with.Given as goal

-- no phase so far names the link
abbrev pub invariant-loop-index : goal.invariant-loop-index
invariant-loop-index l = (k : ℕ) → k < l.index → has_link l.link (get_or l.phases k []) ≡ false
