use Rattle.std.proofs.Common.{◌≡◌, ℕ, ◌+◌, ◌-◌, ◌<◌, length, slice_index, ap, add-one, ◌∙◌, arith}
use Rattle.net_parts.specs.Outline.{link_at}
use Rattle.net_parts.specs.declared.roads.Link.{Link}
use Rattle.road_net.specs.Totals.{total}
use Rattle.net_simulator.specs.LinkSeconds.{waits_at}
use Rattle.net_simulator.specs.Rows.{cell}
use Rattle.net_simulator.specs.Sums.{outward}
use Rattle.spillback_world.proofs.Setting.{first-more, pair-more, rest-still}
use Rattle.spillback_world.proofs.ends.reach_ends.Goals as goal

pub loop-l-preserved : goal.loop-l-preserved
loop-l-preserved c =
    let l = c.loop-l in
    let net = c.args.net.now in
    let rs = c.args.recent.now in
    let waits : ℕ → ℕ = waits_at net c.args.queues.now rs c.args.second in
    let out : ℕ → ℕ = λ k. outward (link_at net k).to (waits_at net c.args.queues.now rs c.args.second k) in
    let waiting : ℕ = c.waiting_amount-waiting.result in
    let away : ℕ = c.outward-away.result in
    let below : l.l < length net.link_names = omega (arith, c.links-l-end.ensures.value, c.loop-l-test.true) in
    let inside : l.l < length l.leaving = omega (arith, below, c.requires.leaving, l.auto.leaving) in
    let there : l.l < length l.queues = omega (arith, below, c.requires.queues, l.auto.queues) in
    let held : l.l < length l.held = omega (arith, below, c.requires.held, l.auto.held) in
    let first : waiting ≡ waits l.l = c.waiting_amount-waiting.ensures ∙ ap (λ q. q + cell rs l.l (c.args.second + 128 - (link_at net l.l).travel)) (l.invariant.queued l.l (omega arith)) in
    let is : away ≡ out l.l = c.outward-away.ensures.value ∙ ap (λ (k : Link). outward k.to waiting) c.link.ensures.value ∙ ap (outward (link_at net l.l).to) first in
    record {
      leaving = first-more out l.leaving l.l away inside is l.invariant.leaving;
      queues = pair-more (λ k a. waits k - a) l.leaving l.queues l.l away (waiting - away) inside there (ap (λ w. w - away) first) l.invariant.queues;
      held = pair-more (λ k a. slice_index c.args.held.now k - a) l.leaving l.held l.l away (slice_index l.held l.l - away) inside held (ap (λ h. h - away) (l.invariant.holding l.l (omega arith))) l.invariant.held;
      queued = rest-still (slice_index c.args.queues.now) l.queues l.l (waiting - away) l.invariant.queued;
      holding = rest-still (slice_index c.args.held.now) l.held l.l (slice_index l.held l.l - away) l.invariant.holding;
      out = omega (arith, l.invariant.out, is, ap (total out) (add-one l.l));
      most = omega (arith, l.invariant.most);
    }
