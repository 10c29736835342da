use Rattle.std.proofs.Common.{ℕ, ◌<◌, IsTrue}
use Rattle.net_parts.specs.Outline.{is_green_in}
use Rattle.net_parts.specs.Parts.{net_of}
use Rattle.road_net.proofs.greens.are_never_both.Given as goal

-- in no phase so far are both green
abbrev pub invariant-loop-phase : goal.invariant-loop-phase
invariant-loop-phase l = (k : ℕ) → k < l.phase → IsTrue (is_green_in (net_of l.parts) l.a k) → IsTrue (is_green_in (net_of l.parts) l.b k) → ⊥
