use Rattle.std.proofs.Common.{arith}
use Rattle.actuated.proofs.NearLaws.{near-more}
use Rattle.actuated.proofs.calls.all_near_amounts.Goals as goal

pub overflow_add-all : goal.overflow_add-all
overflow_add-all c =
    let l = c.loop-link in
    omega (arith, near-more c.args.sensed.now c.args.gap c.args.links.now l.link-index 0 c.loop-link-test.true c.requires.links, l.invariant, c.amount_near-all.ensures, c.requires.amounts)
