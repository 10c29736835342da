use Rattle.std.proofs.Common.{◌≡◌, ◌+◌, map}
use Rattle.std.specs.List.{range_with_len}
use Rattle.net_simulator.specs.Rows.{cell}
use Rattle.net_simulator.proofs.sensing.see.Given as goal

abbrev pub invariant-loop-i : goal.invariant-loop-i
invariant-loop-i l = l.coming.items ≡ map (λ j. cell l.sight.recent.now l.link (l.first + j)) (range_with_len 0 l.i)
