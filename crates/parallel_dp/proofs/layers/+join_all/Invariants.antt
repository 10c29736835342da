use Rattle.std.proofs.Common.{length}
use Rattle.parallel_dp.proofs.layers.+join_all.Given as goal

abbrev pub decreases-join_all : goal.decreases-join_all
decreases-join_all l = length l.lists.now
