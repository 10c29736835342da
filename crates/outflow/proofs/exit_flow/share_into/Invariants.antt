use Rattle.std.proofs.Common.{◌≡◌, ◌≢◌, ℕ, ◌<◌, get_or, take, sum_by}
use Rattle.net_parts.specs.declared.roads.Turn.{Turn}
use Rattle.road_net.specs.Joins.{share_of}
use Rattle.outflow.proofs.exit_flow.share_into.Given as goal

-- the shares so far, none of them of a turn to the exit
abbrev pub invariant-loop-turn : goal.invariant-loop-turn
invariant-loop-turn l = record {
  shares : l.before ≡ sum_by share_of (take l.turn-index l.turns);
  elsewhere : (k : ℕ) (d : Turn) → k < l.turn-index → (get_or l.turns k d).exit ≢ l.exit;
}
