use Rattle.std.proofs.Common.{◌+◌, subst, sym, arith}
use Rattle.forward_dp.specs.Completions.{completion_at}
use Rattle.forward_dp.proofs.CompletedEntries.{IsFollowing, ends-after, ends-complete, one-more, start}
use Rattle.forward_dp.proofs.completions.follow.Goals as goal

pub loop-preserved : goal.loop-preserved
loop-preserved c =
    subst (λ xs. IsFollowing c.args.all.now c.args.first (completion_at c.args.all.now c.in-By.next) xs (c.loop.counter + 1) 40) (sym c.in_ok-push.ensures.items)
    (one-more c.args.all.now c.args.first c.loop.sequence.items c.loop.counter 40 c.in-By.cost c.in-By.phase c.in-By.next
    (subst (λ h. IsFollowing c.args.all.now c.args.first h c.loop.sequence.items c.loop.counter 40) c.in-By.is c.loop.invariant)).1
