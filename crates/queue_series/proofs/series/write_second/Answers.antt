use Rattle.std.proofs.Common.{◌≡◌, List, ap, ◌∙◌, subst, arith}
use Rattle.world_records.specs.Written.{Adds}
use Rattle.world_records.proofs.WrittenLaws.{adds-part}
use Rattle.net_simulator.specs.declared.totals.LinkTotals.{LinkTotals}
use Rattle.queue_series.specs.declared.link_states.LinkState.{LinkState}
use Rattle.queue_series.specs.LinkStates.{kept_records, next_at, next_state, state_at}
use Rattle.queue_series.proofs.LinkStateLaws.{kept-is, more-moved, state-is}
use Rattle.queue_series.proofs.series.write_second.Goals as goal

pub loop-link-preserved : goal.loop-link-preserved
loop-link-preserved c =
    let l = c.loop-link in
    let net = c.args.net.now in
    let world = c.args.world.now in
    let old : List LinkState = c.args.link_states.now.items in
    let before : c.index.result.now ≡ state_at old l.link =
    state-is l.link_states.items l.link c.index.result.now (omega (arith, c.loop-link-test.true, c.links-link-end.ensures.value, c.requires.link_states, l.invariant.0.count)) c.index.ensures
    ∙ l.invariant.0.rest l.link (omega arith) in
    let after : c.next_state-after.result ≡ next_at world old l.link =
    c.next_state-after.ensures ∙ ap (λ (w : LinkState). next_state w c.link_totals.result c.now.result) before
    ∙ ap (λ (t : LinkTotals). next_state (state_at old l.link) t c.now.result) c.link_totals.ensures ∙ ap (next_state (state_at old l.link) _) c.now.ensures in (
      more-moved world old l.link_states.items l.link c.next_state-after.result (omega (arith, c.loop-link-test.true, c.links-link-end.ensures.value, c.requires.link_states)) l.invariant.0 after,
      adds-part (kept_records net world old) l.link c.args.out.now l.out c.write_change.new.out l.invariant.1
          (subst (Adds l.out c.write_change.new.out) (kept-is net world old l.link c.index.result.now c.next_state-after.result c.now-in-loop-link.result before after c.now-in-loop-link.ensures) c.in_ok-write_change.ensures),
    )
