use Rattle.std.proofs.Common.{rules, ◌≡◌, ◌+◌, slice_index, length, ap, sym, ◌∙◌, arith}
use Rattle.net_parts.specs.Outline.{link_at, turns_at}
use Rattle.road_net.specs.Joins.{split_of}
use Rattle.road_net.proofs.TotalLaws.{total-more, total-same}
use Rattle.net_simulator.specs.Rows.{cell}
use Rattle.net_simulator.specs.Steps.{goes_at}
use Rattle.net_simulator.specs.Sums.{outward}
use Rattle.net_simulator.proofs.seconds.discharge.Goals as goal

pub turn-out-requires-clause-fits : goal.turn-out-requires-clause-fits
turn-out-requires-clause-fits c k h =
    let more = total-more (λ m. split_of (turns_at c.args.net.now m) (goes_at c.args.net.now c.args.shown.now.signs.now c.args.shown.now.since.now c.args.waits.now c.args.ready.now c.args.second m) k) (length c.args.net.now.link_names) c.loop-l.l (omega arith) in
    let same = ap (λ a. split_of (turns_at c.args.net.now c.loop-l.l) a k) c.goes-amount.ensures.value in
    omega (arith, more, same, c.loop-l.invariant.here k h, c.requires.fits k h)

pub returns-clause-here : goal.returns-clause-here
returns-clause-here c k h =
    let whole : c.loop-l.l ≡ length c.args.net.now.link_names = omega (arith, c.links-l-end.ensures.value) in
    let same = total-same (λ m. split_of (turns_at c.args.net.now m) (goes_at c.args.net.now c.args.shown.now.signs.now c.args.shown.now.since.now c.args.waits.now c.args.ready.now c.args.second m) k) (λ m. split_of (turns_at c.args.net.now m) (slice_index c.loop-l.leaving m) k) c.loop-l.l (λ m b. ap (λ a. split_of (turns_at c.args.net.now m) a k) (sym (c.loop-l.invariant.leaving m b))) in
    rw (← whole) (c.loop-l.invariant.here k h ∙ ap (λ n. cell c.args.recent.now k c.args.second + n) same)

pub returns-clause-out : goal.returns-clause-out
returns-clause-out c =
    let whole : c.loop-l.l ≡ length c.args.net.now.link_names = omega (arith, c.links-l-end.ensures.value) in
    let same = total-same (λ m. outward (link_at c.args.net.now m).to (goes_at c.args.net.now c.args.shown.now.signs.now c.args.shown.now.since.now c.args.waits.now c.args.ready.now c.args.second m)) (λ m. outward (link_at c.args.net.now m).to (slice_index c.loop-l.leaving m)) c.loop-l.l (λ m b. ap (outward (link_at c.args.net.now m).to) (sym (c.loop-l.invariant.leaving m b))) in
    rw (← whole) (c.loop-l.invariant.out ∙ same)

pub loop-l-preserved : goal.loop-l-preserved
loop-l-preserved c = record {
  leaving = search rules;
  most = search rules;
  here = search rules;
  out = search rules;
  few = search rules;
  others = search rules;
}
