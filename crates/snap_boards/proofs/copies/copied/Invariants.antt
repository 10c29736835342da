use Rattle.std.proofs.Common.{◌≡◌, take}
use Rattle.snap_boards.proofs.copies.copied.Given as goal

abbrev pub invariant-loop-k : goal.invariant-loop-k
invariant-loop-k g l = l.forecast ≡ take l.k l.rows
