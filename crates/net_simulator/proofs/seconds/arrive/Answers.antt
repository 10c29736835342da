use Rattle.std.proofs.Common.{◌<◌, ◌∙◌, length, arith}
use Rattle.net_simulator.proofs.EveryWorld.{bounds-of}
use Rattle.net_simulator.proofs.Keeping.{waits-kept}
use Rattle.net_simulator.proofs.seconds.arrive.Goals as goal

pub waiting_amount-requires-clause-fits : goal.waiting_amount-requires-clause-fits
waiting_amount-requires-clause-fits c =
    let below : c.loop-l.l < length c.args.net.now.link_names = omega (arith, c.links-l-end.ensures.value, c.loop-l-test.true) in
    let kept = waits-kept c.args.net.now (bounds-of c.args.net.now c.links-l-end.ensures.network) c.args.second c.args.queues.now c.loop-l.queues c.args.recent.now c.put.new.rows c.loop-l.l below
    (c.loop-l.invariant.rest c.loop-l.l (omega arith)) (λ k y other. c.put.ensures.seconds k y other ∙ c.loop-l.invariant.others k y other) in
    omega (arith, kept, c.requires.fits c.loop-l.l below)
