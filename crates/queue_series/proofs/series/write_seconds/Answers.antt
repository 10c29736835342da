use Rattle.std.proofs.Common.{◌≡◌, ◌<◌, ap, subst, ◌∙◌, ◌+◌, arith}
use Rattle.arrivals.specs.Amounts.{arriving_of}
use Rattle.net_simulator.specs.Sums.{end_of_run}
use Rattle.world_records.specs.Written.{Adds}
use Rattle.world_records.proofs.WrittenLaws.{adds-none, adds-part, adds-parts}
use Rattle.net_simulator.specs.Shown.{cumulative_of_lines}
use Rattle.queue_series.specs.Series.{second_records}
use Rattle.queue_series.specs.LinkStates.{AreLinkStates}
use Rattle.queue_series.proofs.LinkStateLaws.{can-all, records-are, link_states-next}
use Rattle.queue_series.proofs.series.write_seconds.Goals as goal

pub write_second-requires-clause-grows : goal.write_second-requires-clause-grows
write_second-requires-clause-grows c =
    let l = c.loop-second in
    can-all c.args.net.now c.law_of_network.ensures (arriving_of c.args.arrivals.now) c.args.lines.now l._second (omega (arith, c.loop-second-test.true, c.end_of_run-second-end.ensures.value)) c.advance.new.self
    (c.advance.ensures.second ∙ ap (λ s. s + 1) l.invariant.0) c.advance.ensures.stands l.link_states.items l.invariant.2

pub loop-second-preserved : goal.loop-second-preserved
loop-second-preserved c =
    let l = c.loop-second in
    let net = c.args.net.now in
    let arriving = arriving_of c.args.arrivals.now in
    let lines = c.args.lines.now in
    let before : l._second < end_of_run net = omega (arith, c.loop-second-test.true, c.end_of_run-second-end.ensures.value) in
    let second : c.advance.new.self.second ≡ l._second + 1 = c.advance.ensures.second ∙ ap (λ s. s + 1) l.invariant.0 in (
      second,
      c.advance.ensures.stands,
      link_states-next net c.law_of_network.ensures arriving lines l._second before c.advance.new.self second c.advance.ensures.stands l.link_states.items l.invariant.2 c.write_second.new.link_states.items c.in_ok-write_second.ensures.link_states,
      adds-part (second_records net (cumulative_of_lines net arriving lines)) l._second c.args.out.now l.out c.write_second.new.out l.invariant.3
          (subst (Adds l.out c.write_second.new.out) (records-are net c.law_of_network.ensures arriving lines l._second before c.advance.new.self second c.advance.ensures.stands l.link_states.items l.invariant.2) c.in_ok-write_second.ensures.adds),
    )

pub loop-second-init : goal.loop-second-init
loop-second-init c = (c.in_ok-world.ensures.second, c.in_ok-world.ensures.stands _ _, c.requires.link_states, adds-none c.args.out.now)

pub returns-clause-link_states : goal.returns-clause-link_states
returns-clause-link_states c =
    subst (λ n. AreLinkStates c.args.net.now (cumulative_of_lines c.args.net.now (arriving_of c.args.arrivals.now) c.args.lines.now) n c.loop-second.link_states.items)
    (omega (arith, c.end_of_run-second-end.ensures.value)) c.loop-second.invariant.2

pub returns-clause-adds : goal.returns-clause-adds
returns-clause-adds c =
    adds-parts (second_records c.args.net.now (cumulative_of_lines c.args.net.now (arriving_of c.args.arrivals.now) c.args.lines.now)) c.loop-second._second (end_of_run c.args.net.now) c.args.out.now c.loop-second.out
    (omega (arith, c.end_of_run-second-end.ensures.value)) c.loop-second.invariant.3
