use Rattle.std.proofs.Common.{append_assoc}
use Rattle.road_net.proofs.Ends.{concat-more}
use Rattle.road_net.proofs.times.push_links.Goals as goal

pub loop-links-preserved : goal.loop-links-preserved
loop-links-preserved c =
    rw (c.in_ok-extend_from_slice.ensures.items, c.as_slice.ensures, c.loop-links.invariant, concat-more c.args.phases.now c.loop-links.links-index c.links-item.result c.loop-links-test.true c.links-item.is, append_assoc)
