use Rattle.std.proofs.Common.{◌≡◌, ℕ, ◌+◌, ◌<◌, ◌≤◌, List, get_or}
use Rattle.clusters.proofs.cuts.add_to.Given as goal

pub record IsAdding (before series amounts : List ℕ) (k : ℕ) : Type 0 where
  pub done : (i : ℕ) → i < k → get_or series i 0 ≡ get_or before i 0 + get_or amounts i 0
  pub rest : (i : ℕ) → k ≤ i → get_or series i 0 ≡ get_or before i 0

abbrev pub invariant-loop-k : goal.invariant-loop-k
invariant-loop-k l = IsAdding l.initial.series l.series l.amounts l.k
