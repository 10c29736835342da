use Rattle.std.proofs.Common.{◌≡◌, ℕ, ◌+◌, ◌<◌, List, length, replicate, slice_index, subst, sym, ap, ◌∙◌, arith}
use Rattle.std.proofs.lemmas.List.{with_items_is}
use Rattle.arrivals.specs.Amounts.{arriving_of}
use Rattle.net_simulator.specs.Counts.{counts_at, no_totals}
use Rattle.net_simulator.specs.Sums.{end_of_run}
use Rattle.net_simulator.specs.Worlds.{line_in, signs_by}
use Rattle.net_simulator.specs.declared.totals.LinkTotals.{LinkTotals}
use Rattle.net_simulator.proofs.Passing.{few-of}
use Rattle.spillback_world.specs.Counting.{CanBeCounted, HaveCounted, counted_by}
use Rattle.spillback_world.proofs.Counting.{all-counted, can-be, more-counted, none-counted}
use Rattle.spillback_world.proofs.Sources.{sources-of}
use Rattle.spillback_world.proofs.counts.spill_links.Goals as goal

pub loop-second-init : goal.loop-second-init
loop-second-init c =
    let net = c.args.net.now in
    let shown = signs_by (line_in c.args.lines.now.all.now) in
    none-counted net c.law_of_network.ensures (arriving_of c.args.arrivals.now) (slice_index c.args.store.now) shown c.in_ok-world.world c.in_ok-world.ensures.second
    (c.in_ok-world.ensures.stands (arriving_of c.args.arrivals.now) (slice_index c.args.store.now) shown) c.in_ok-counts.counts.items
    (subst (λ n. c.in_ok-counts.counts.items ≡ replicate n no_totals) c.links.ensures.value c.in_ok-counts.ensures)

pub count_second-requires-clause-fits : goal.count_second-requires-clause-fits
count_second-requires-clause-fits c l below =
    let net = c.args.net.now in
    let network = c.law_of_network.ensures in
    let arrivals = c.args.arrivals.now in
    let loop = c.loop-second in
    subst (λ (counts : List LinkTotals). CanBeCounted (counts_at counts l) c.advance.new.self l) (sym c.as_mut_slice.ensures.value)
    (can-be net network (arriving_of arrivals) (slice_index c.args.store.now) (signs_by (line_in c.args.lines.now.all.now)) (few-of net network arrivals c.requires.arrivals) (sources-of net arrivals c.requires.arrivals) loop._second
    (omega (arith, c.loop-second-test.true, c.end_of_run-seconds.ensures.bound)) loop.world c.advance.new.self loop.counts.items loop.invariant c.advance.ensures.second c.advance.ensures.stands l below)

pub loop-second-preserved : goal.loop-second-preserved
loop-second-preserved c =
    let net = c.args.net.now in
    let network = c.law_of_network.ensures in
    let arrivals = c.args.arrivals.now in
    let arriving = arriving_of c.args.arrivals.now in
    let store = slice_index c.args.store.now in
    let shown = signs_by (line_in c.args.lines.now.all.now) in
    let loop = c.loop-second in
    let next = c.count_second.new.counts in
    let value = c.as_mut_slice.ensures.value in
    let count : length next ≡ length loop.counts.items = c.count_second.auto.counts ∙ ap length value in
    let are : (l : ℕ) → l < length net.link_names → counts_at next l ≡ counted_by (counts_at loop.counts.items l) c.advance.new.self l =
    λ l below. c.count_second.ensures l below ∙ ap (λ (counts : List LinkTotals). counted_by (counts_at counts l) c.advance.new.self l) value in
    subst (HaveCounted net arriving store shown (loop._second + 1) c.advance.new.self) (sym (with_items_is loop.counts next (omega (arith, count, loop.counts.ok.0))))
    (more-counted net network arriving store shown (few-of net network arrivals c.requires.arrivals) (sources-of net arrivals c.requires.arrivals) loop._second
    (omega (arith, c.loop-second-test.true, c.end_of_run-seconds.ensures.bound)) loop.world c.advance.new.self loop.counts.items loop.invariant c.advance.ensures.second c.advance.ensures.stands next count are)

pub returns : goal.returns
returns c =
    let net = c.args.net.now in
    all-counted net c.law_of_network.ensures (arriving_of c.args.arrivals.now) (slice_index c.args.store.now) (signs_by (line_in c.args.lines.now.all.now)) (end_of_run net) c.loop-second._second c.loop-second.world c.loop-second.counts.items
    (omega (arith, c.loop-second-test.false, c.loop-second.auto._second-end, c.end_of_run-seconds.ensures.value)) c.loop-second.invariant
