use Rattle.std.proofs.Common.{◌≡◌, [], map}
use Rattle.std.specs.List.{range_with_len}
use Rattle.round_states.specs.Readers.{lists_of}
use Rattle.round_states.proofs.by_place.no_lists.Given as goal

-- an empty list for each place so far
abbrev pub invariant-loop-place : goal.invariant-loop-place
invariant-loop-place g l = lists_of l.all.items ≡ map (λ place. []) (range_with_len 0 l._place)
