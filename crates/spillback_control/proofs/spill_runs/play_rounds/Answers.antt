use Rattle.std.proofs.Common.{◌≡◌, ◌+◌, ◌<◌, ◌≤◌, List, length, slice_index, sym, ap, subst, ◌∙◌, arith}
use Rattle.control_flow.specs.declared.greens.Green.{Green}
use Rattle.clusters.proofs.SeenLaws.{written}
use Rattle.net_parts.specs.Limits.{most_seconds}
use Rattle.net_parts.specs.Outline.{plan_at}
use Rattle.arrivals.specs.Amounts.{arriving_of}
use Rattle.net_simulator.specs.Worlds.{line_in, signs_by}
use Rattle.actuated.specs.ActSteps.{act_rounds}
use Rattle.actuated.specs.Rounds.{AreAmounts, AreRenewed, IsReady}
use Rattle.actuated.specs.RunsSoFar.{AreNear}
use Rattle.spillback_world.specs.Storage.{cumulative_in}
use Rattle.spillback_world.specs.Worlds.{Stands}
use Rattle.spillback_control.specs.SpillRounds.{HaveSpilled}
use Rattle.spillback_control.proofs.RunLaws.{more-spilled, renewed-stands, room, spilled-world}
use Rattle.spillback_control.proofs.spill_runs.play_rounds.Goals as goal

pub sense_near-requires-clause-near : goal.sense_near-requires-clause-near
sense_near-requires-clause-near c = ap length c.as_mut_slice.ensures.value ∙ c.loop-round.invariant.near

pub returns : goal.returns
returns c =
    let l = c.loop-round in
    let end : l._round ≡ act_rounds c.args.net.now = omega (arith, c.act_rounds-rounds.ensures.value) in
    subst (λ r. HaveSpilled c.args.net.now (arriving_of c.args.arrivals.now) (slice_index c.args.store.now) r l.lines.items l.world) end l.invariant.played

pub sense_near-requires-clause-world : goal.sense_near-requires-clause-world
sense_near-requires-clause-world c = spilled-world c.args.net.now c.args.arrivals.now (slice_index c.args.store.now) c.loop-round._round c.loop-round.lines.items c.loop-round.world c.requires.arrivals c.loop-round.invariant.played

pub renew_lines-requires-clause-now : goal.renew_lines-requires-clause-now
renew_lines-requires-clause-now c = subst (λ s. s ≤ most_seconds) (sym c.now.ensures) c.loop-round.invariant.played.stands.by

pub renew_lines-requires-clause-near : goal.renew_lines-requires-clause-near
renew_lines-requires-clause-near c =
    let l = c.loop-round in
    let list = written l.near.items c.sense_near.new.near l.near.len (c.sense_near.ensures.amounts.count ∙ sym l.invariant.near) l.near.ok.0 in
    subst (AreAmounts c.args.net.now) (sym (c.as_slice.ensures.value ∙ list)) c.sense_near.ensures.amounts

pub renew_lines-requires-clause-count : goal.renew_lines-requires-clause-count
renew_lines-requires-clause-count c = c.loop-round.invariant.played.acted.count

pub renew_lines-requires-clause-ready : goal.renew_lines-requires-clause-ready
renew_lines-requires-clause-ready c node below =
    let l = c.loop-round in
    subst (λ s. IsReady (plan_at c.args.net.now node) s (line_in l.lines.items node)) (sym (c.now.ensures ∙ l.invariant.played.second)) (l.invariant.played.acted.ready node below)

pub advance-requires-clause-second : goal.advance-requires-clause-second
advance-requires-clause-second c =
    let l = c.loop-round in
    let net = c.args.net.now in
    let renewed = c.in_ok-lines.lines.items in
    let are = subst (λ s. AreRenewed net c.as_slice.result.now s (length net.node_names) l.lines.items renewed) c.now.ensures c.in_ok-lines.ensures in
    let less = subst (λ r. l._round < r) c.act_rounds-rounds.ensures.value c.loop-round-test.true in
    subst (λ s. l.world.second + s ≤ most_seconds) (sym c.act_step-step.ensures.value)
    (room net c.act_rounds-rounds.ensures.network (arriving_of c.args.arrivals.now) (slice_index c.args.store.now) l._round l.lines.items renewed c.as_slice.result.now l.world l.invariant.played are less)

pub advance-requires-clause-stands : goal.advance-requires-clause-stands
advance-requires-clause-stands c =
    let l = c.loop-round in
    let net = c.args.net.now in
    let arriving = arriving_of c.args.arrivals.now in
    let store = slice_index c.args.store.now in
    let renewed = c.in_ok-lines.lines.items in
    let are = subst (λ s. AreRenewed net c.as_slice.result.now s (length net.node_names) l.lines.items renewed) c.now.ensures c.in_ok-lines.ensures in
    subst (λ (lines : List (List Green)). Stands net arriving store (signs_by (line_in lines)) l.world) (sym c.as_slice-in-loop-round.ensures.value)
    (renewed-stands net c.act_rounds-rounds.ensures.network arriving store l._round l.lines.items renewed c.as_slice.result.now l.world l.invariant.played are)

pub loop-round-preserved : goal.loop-round-preserved
loop-round-preserved c =
    let l = c.loop-round in
    let net = c.args.net.now in
    let arriving = arriving_of c.args.arrivals.now in
    let store = slice_index c.args.store.now in
    let renewed = c.in_ok-lines.lines.items in
    let near = c.as_slice.result.now in
    let count = c.sense_near.ensures.amounts.count in
    let list = written l.near.items c.sense_near.new.near l.near.len (count ∙ sym l.invariant.near) l.near.ok.0 in
    let are = subst (λ s. AreRenewed net near s (length net.node_names) l.lines.items renewed) c.now.ensures c.in_ok-lines.ensures in
    let sensed = subst (AreNear net (cumulative_in net arriving store (signs_by (line_in l.lines.items)) l.world.second) l.world.second) (sym (c.as_slice.ensures.value ∙ list)) (c.sense_near.ensures.near arriving store (signs_by (line_in l.lines.items)) l.invariant.played.stands) in
    record {
      near = ap length list ∙ count;
      played = more-spilled net c.act_rounds-rounds.ensures.network arriving store l._round l.lines.items renewed near l.world l.invariant.played are sensed c.advance.new.self
          (c.advance.ensures.second ∙ ap (λ s. l.world.second + s) c.act_step-step.ensures.value)
          (subst (λ (lines : List (List Green)). Stands net arriving store (signs_by (line_in lines)) c.advance.new.self) c.as_slice-in-loop-round.ensures.value c.advance.ensures.stands);
    }
