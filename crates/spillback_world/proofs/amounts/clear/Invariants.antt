use Rattle.std.proofs.Common.{◌≡◌, ℕ, ◌<◌, slice_index}
use Rattle.spillback_world.proofs.amounts.clear.Given as goal

-- 0 for the links so far
abbrev pub invariant-loop-l : goal.invariant-loop-l
invariant-loop-l l = (k : ℕ) → k < l.l → slice_index l.amounts k ≡ 0
