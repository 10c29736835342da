use Rattle.road_net.proofs.Ends.{concat-map-more}
use Rattle.road_net.proofs.times.named_links.Goals as goal

pub loop-phases-preserved : goal.loop-phases-preserved
loop-phases-preserved c =
    rw (c.in_ok-push_links.ensures, c.as_slice.ensures, c.loop-phases.invariant, concat-map-more c.args.phase_links.now c.loop-phases.phases-index c.phases-item.result c.loop-phases-test.true c.phases-item.is)
