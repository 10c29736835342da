use Rattle.std.proofs.Common.{ℕ, ◌<◌, ◌≢◌, length, get_or}
use Rattle.net_parts.specs.declared.roads.Turn.{Turn}
use Rattle.road_net.proofs.joins.exits_differ.Given as goal

-- the exits so far differ from all later ones
abbrev pub invariant-loop-index : goal.invariant-loop-index
invariant-loop-index l = (i j : ℕ) (d : Turn) → i < l.index → i < j → j < length l.turns → (get_or l.turns i d).exit ≢ (get_or l.turns j d).exit
