use Rattle.std.proofs.Common.{◌+◌, ◌-◌, ◌<◌, length, get_or, set, refl, arith}
use Rattle.std.proofs.lemmas.List.{get_or-set_same}
use Rattle.clusters.specs.Taking.{IsFirstAmong}
use Rattle.clusters.proofs.TakingLaws.{put-back, taking-more, taking-stuck, taking-whole}
use Rattle.clusters.proofs.windows.longest_front.Goals as goal

pub returns-in_default : goal.returns-in_default
returns-in_default c = taking-whole c.args.lists.now c.loop-taken.counts c.loop-taken._taken c.loop-taken.invariant (omega arith) c.in_default.ensures

pub returns-then-ways-gt-MOST_ORDERS : goal.returns-then-ways-gt-MOST_ORDERS
returns-then-ways-gt-MOST_ORDERS c =
    let first : IsFirstAmong c.args.lists.now c.loop-taken.counts (length c.args.lists.now) c.in-Some.first = c.in-Some.ensures in
    let inside : c.in-Some.first.1 < length c.loop-taken.counts = omega (arith, first.phase, c.loop-taken.invariant.front.phases) in
    let more = get_or c.loop-taken.counts c.in-Some.first.1 0 + 1 in
    taking-stuck c.args.lists.now c.loop-taken.counts _ c.loop-taken._taken c.in-Some.first c.loop-taken.invariant (omega arith) first
    (omega (arith, c.ways.ensures, c.if-ways-gt-MOST_ORDERS.true))
    (put-back c.loop-taken.counts c.in-Some.first.1 more (get_or (set c.loop-taken.counts c.in-Some.first.1 more) c.in-Some.first.1 0 - 1) inside refl
    (omega (arith, get_or-set_same c.loop-taken.counts c.in-Some.first.1 more 0 inside)))

pub loop-taken-preserved : goal.loop-taken-preserved
loop-taken-preserved c =
    let first : IsFirstAmong c.args.lists.now c.loop-taken.counts (length c.args.lists.now) c.in-Some.first = c.in-Some.ensures in
    taking-more c.args.lists.now c.loop-taken.counts c.loop-taken._taken c.in-Some.first c.requires.rising c.loop-taken.invariant first
    (omega (arith, c.ways.ensures, c.if-ways-gt-MOST_ORDERS.false))
