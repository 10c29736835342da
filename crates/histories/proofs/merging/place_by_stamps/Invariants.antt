use Rattle.std.proofs.Common.{◌≡◌, IsPermutation, length}
use Rattle.histories.proofs.merging.place_by_stamps.Given as goal

abbrev pub invariant-loop-place : goal.invariant-loop-place
invariant-loop-place l = record {
  same : IsPermutation l.fn.drawn.items l.drawn.items;
  count : length l.drawn.items ≡ length l.fn.drawn.items;
}
