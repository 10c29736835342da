use Rattle.forward_dp.proofs.CompletedEntries.{IsFollowing}
use Rattle.forward_dp.proofs.completions.follow.Given as goal

abbrev pub invariant-loop : goal.invariant-loop
invariant-loop l = IsFollowing l.all l.fn.first l.here l.sequence.items l.counter 40
