use Rattle.std.proofs.Common.{arith, rules, get_or}
use Rattle.road_net.proofs.Counting.{times-none, times-few, times-more}
use Rattle.road_net.proofs.times.count_links.Goals as goal

pub loop-link-init : goal.loop-link-init
loop-link-init c = times-none c.args.named.now c.args.links _ (search rules)

pub count_link-requires : goal.count_link-requires
count_link-requires c = let few = times-few c.args.named.now c.args.links c.loop-link.link-index c.loop-link.times.items c.loop-link.invariant (get_or c.args.named.now c.loop-link.link-index 0) in omega (arith, few, c.loop-link-test.true)

pub loop-link-preserved : goal.loop-link-preserved
loop-link-preserved c = times-more c.args.named.now c.args.links c.loop-link.link-index 0 c.loop-link.times.items c.count_link.new.times.items c.loop-link-test.true c.loop-link.invariant c.count_link.ensures
