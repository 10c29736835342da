use Rattle.std.proofs.Common.{◌≡◌, ◌+◌, ◌<◌, ◌∙◌, min, ap, arith}
use Rattle.net_parts.specs.declared.roads.Link.{Link}
use Rattle.net_simulator.proofs.Seeing.{near-all, near-more, near-within}
use Rattle.net_simulator.proofs.sensing.near_amount.Goals as goal

pub overflow_add-near : goal.overflow_add-near
overflow_add-near c =
    let s = c.args.sight.now in
    let read = ap (λ (k : Link). k.travel) c.link-travel.ensures.value in
    let less : c.loop-i.i < min c.link-travel.result.travel (c.args.gap + 1) = omega (arith, c.loop-i-test.true, c.min-i-end.ensures, c.saturating_add.ensures) in
    omega (arith, near-within s.net.now s.queues.now s.recent.now s.stood.now s.second c.args.link c.args.gap c.link-travel.result.travel read c.loop-i.i c.loop-i.near c.at-near.result c.loop-i.invariant c.at-near.ensures less, c.requires.fits)

pub loop-i-preserved : goal.loop-i-preserved
loop-i-preserved c =
    let s = c.args.sight.now in
    let read = ap (λ (k : Link). k.travel) c.link-travel.ensures.value in
    near-more s.net.now s.queues.now s.recent.now s.stood.now s.second c.args.link c.args.gap c.link-travel.result.travel read c.loop-i.i c.loop-i.near c.at-near.result c.loop-i.invariant c.at-near.ensures

pub returns : goal.returns
returns c =
    let s = c.args.sight.now in
    let read = ap (λ (k : Link). k.travel) c.link-travel.ensures.value in
    let all : c.loop-i.i ≡ min c.link-travel.result.travel (c.args.gap + 1) = omega (arith, c.loop-i-test.false, c.loop-i.auto.i-end, c.min-i-end.ensures, c.saturating_add.ensures) in
    c.loop-i.invariant ∙ near-all s.net.now s.queues.now s.recent.now s.stood.now s.second c.args.link c.args.gap c.link-travel.result.travel read c.loop-i.i all
