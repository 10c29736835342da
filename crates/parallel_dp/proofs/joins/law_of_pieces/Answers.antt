use Rattle.parallel_dp.proofs.PieceLaws.{next-of-both, only-least}
use Rattle.parallel_dp.specs.Pieces.{IsReachedFrom}
use Rattle.std.proofs.Common.{◌++◌}
use Rattle.parallel_dp.proofs.joins.law_of_pieces.Goals as goal

pub returns-clause-joined : goal.returns-clause-joined
returns-clause-joined c p xs ys a b joined na nb join = next-of-both p xs ys a b joined na nb join

pub returns-clause-same : goal.returns-clause-same
returns-clause-same c p xs ys a b joined next na nb join n = only-least (IsReachedFrom p (xs ++ ys)) next joined n (next-of-both p xs ys a b joined na nb join)

pub returns-clause-only : goal.returns-clause-only
returns-clause-only c p xs one other a b = only-least (IsReachedFrom p xs) one other a b
