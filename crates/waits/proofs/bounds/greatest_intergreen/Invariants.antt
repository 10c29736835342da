use Rattle.std.proofs.Common.{◌≡◌, ◌≤◌, max, fold}
use Rattle.std.specs.List.{range_with_len}
use Rattle.waits.specs.Waits.{longest_intergreen}
use Rattle.waits.proofs.bounds.greatest_intergreen.Given as goal

-- the longest of those so far, each at most 200
abbrev pub invariant-loop-phase : goal.invariant-loop-phase
invariant-loop-phase l = record {
  value : l.greatest ≡ fold (λ most k. max most (longest_intergreen l.plan l.look k)) 0 (range_with_len 0 l.phase);
  bounds : l.greatest ≤ 200;
}
