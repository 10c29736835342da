use Rattle.std.proofs.Common.{◌≡◌, ◌*◌, ◌≤◌, slice_index}
use Rattle.road_net.specs.Totals.{total}
use Rattle.spillback_world.proofs.amounts.sum.Given as goal

-- the sum over the links so far
abbrev pub invariant-loop-l : goal.invariant-loop-l
invariant-loop-l l = (l.all ≡ total (slice_index l.amounts) l.l) × (l.all ≤ l.l * 4294967295)
