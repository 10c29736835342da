use Rattle.std.proofs.Common.{◌≡◌, IsPermutation, length}
use Rattle.histories.proofs.merging.settle.Given as goal

abbrev pub invariant-loop : goal.invariant-loop
invariant-loop l = record {
  same : IsPermutation l.fn.drawn.items l.drawn.items;
  count : length l.drawn.items ≡ length l.fn.drawn.items;
}
