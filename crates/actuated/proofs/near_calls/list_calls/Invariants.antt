use Rattle.std.proofs.Common.{◌≡◌, map, slice_index, sum_by}
use Rattle.std.specs.List.{range_with_len}
use Rattle.net_parts.specs.Outline.{phase_links_at}
use Rattle.actuated.proofs.near_calls.list_calls.Given as goal

-- what calls for the phases so far
abbrev pub invariant-loop-phase : goal.invariant-loop-phase
invariant-loop-phase l = l.calls.items ≡ map (λ k. sum_by (slice_index l.near) (phase_links_at l.net l.node k)) (range_with_len 0 l.phase)
