use Rattle.std.proofs.Common.{◌≡◌, ◌+◌, map, slice_index, sum}
use Rattle.std.specs.List.{range_with_len}
use Rattle.net_simulator.specs.Rows.{cell}
use Rattle.net_simulator.proofs.sensing.near_amount.Given as goal

-- what is near within the seconds so far
abbrev pub invariant-loop-i : goal.invariant-loop-i
invariant-loop-i l = l.near ≡ slice_index l.sight.queues.now l.link + sum (map (λ j. cell l.sight.recent.now l.link (l.first + j)) (range_with_len 0 l.i))
