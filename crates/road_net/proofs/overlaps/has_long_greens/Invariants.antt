use Rattle.std.proofs.Common.{ℕ, ◌<◌, ◌≤◌, IsTrue}
use Rattle.net_parts.specs.Outline.{is_green_in, plan_at}
use Rattle.net_parts.specs.Parts.{net_of}
use Rattle.phase_plan.specs.Phases.{phase_at}
use Rattle.road_net.proofs.overlaps.has_long_greens.Given as goal

-- the greens so far are long enough
abbrev pub invariant-loop-k : goal.invariant-loop-k
invariant-loop-k s = (k : ℕ) → k < s.k → IsTrue (is_green_in (net_of s.parts) s.l k) → s.seconds ≤ (phase_at (plan_at (net_of s.parts) s.node) k).least
