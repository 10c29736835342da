use Rattle.std.proofs.Common.{ℕ, ◌<◌, IsTrue}
use Rattle.net_parts.specs.Numbers.{has_link}
use Rattle.net_parts.specs.Outline.{also_links_at}
use Rattle.net_parts.specs.Parts.{net_of}
use Rattle.road_net.specs.Joins.{IsFurther}
use Rattle.road_net.proofs.overlaps.is_also_at.Given as goal

-- the phases so far name the link also as they may
abbrev pub invariant-loop-k : goal.invariant-loop-k
invariant-loop-k s = (k : ℕ) → k < s.k → IsTrue (has_link s.l (also_links_at (net_of s.parts) s.n k)) → IsFurther (net_of s.parts) s.l s.n k
