use Rattle.std.proofs.Common.{◌≡◌, ℕ, ◌+◌, ◌-◌, ◌<◌, ◌≤◌, get_or}
use Rattle.road_net.specs.Joins.{part_between}
use Rattle.outflow.proofs.exit_flow.add_part.Given as goal

-- the parts of the first j amounts have been added
abbrev pub invariant-loop-j : goal.invariant-loop-j
invariant-loop-j l = record {
  near : (k : ℕ) → k < l.first → get_or l.amounts k 0 ≡ get_or l.initial.amounts k 0;
  done : (k : ℕ) → l.first ≤ k → k < l.first + l.j → get_or l.amounts k 0 ≡ get_or l.initial.amounts k 0 + part_between (get_or l.part (k - l.first) 0) l.share.0 (l.share.0 + l.share.1);
  rest : (k : ℕ) → l.first + l.j ≤ k → get_or l.amounts k 0 ≡ get_or l.initial.amounts k 0;
}
