use Rattle.std.proofs.Common.{arith}
use Rattle.actuated.proofs.NearLaws.{near-sum-more}
use Rattle.actuated.proofs.near_calls.sum_near.Goals as goal

pub overflow_add-all : goal.overflow_add-all
overflow_add-all c =
    let l = c.loop-link in
    omega (arith, near-sum-more c.args.near.now c.args.links.now l.link-index 0 c.loop-link-test.true c.requires.differ c.requires.links, l.invariant, c.requires.few)
