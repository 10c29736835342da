use Rattle.std.proofs.Common.{ℕ, arith}
use Rattle.std.proofs.lemmas.List.Sums.{sum_by_more_le}
use Rattle.actuated.proofs.calls.sum_of.Goals as goal

pub overflow_add-all : goal.overflow_add-all
overflow_add-all c =
    let l = c.loop-amount in
    omega (arith, sum_by_more_le (λ (n : ℕ). n) c.args.amounts.now l.amount-index 0 c.loop-amount-test.true, l.invariant, c.requires)
