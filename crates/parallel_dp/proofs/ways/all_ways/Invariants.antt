use Rattle.parallel_dp.specs.Ways.{AreAllWays, AreWays}
use Rattle.parallel_dp.proofs.ways.all_ways.Given as goal

-- the entries on the way with fewer servings left, and those with as many
abbrev pub invariant-loop-left : goal.invariant-loop-left
invariant-loop-left g l = record {
  all : AreAllWays l.i l.delay l.left l.all.items;
  ways : AreWays l.i l.delay l.left l.ways.items;
}
