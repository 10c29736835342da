use Rattle.std.proofs.Common.{Vec, Global, ℕ, ap, subst, replicate, ◌∙◌}
use Rattle.std.proofs.lemmas.Result.{IfOk-weaker}
use Rattle.arrivals.specs.Amounts.{arriving_of}
use Rattle.net_simulator.specs.Sums.{end_of_run}
use Rattle.world_records.specs.Written.{HasWritten}
use Rattle.net_simulator.specs.Shown.{cumulative_of_lines}
use Rattle.queue_series.specs.Series.{IsSeries}
use Rattle.queue_series.specs.LinkStates.{first_state}
use Rattle.queue_series.proofs.LinkStateLaws.{first-states, series-is}
use Rattle.queue_series.proofs.series.queue_series.Goals as goal

pub write_seconds-requires-clause-link_states : goal.write_seconds-requires-clause-link_states
write_seconds-requires-clause-link_states c =
    first-states c.args.net.now (arriving_of c.args.arrivals.now) c.args.lines.now c.in_ok-link_states.link_states.items (c.in_ok-link_states.ensures ∙ ap (λ n. replicate n first_state) c.links.ensures.value)

pub returns : goal.returns
returns c =
    IfOk-weaker c.finish.result _ (λ (text : Vec ℕ Global). IsSeries c.args.net.now (cumulative_of_lines c.args.net.now (arriving_of c.args.arrivals.now) c.args.lines.now) (end_of_run c.args.net.now) text.items)
    (λ text gives. series-is c.args.net.now (cumulative_of_lines c.args.net.now (arriving_of c.args.arrivals.now) c.args.lines.now) (end_of_run c.args.net.now) c.write_seconds.new.link_states.items c.as_slice.result.now text.items
    c.start-out.result c.write_record.new.out c.write_seconds.new.out c.write_peaks.new.out
    c.in_ok-write_seconds.ensures.link_states c.as_slice.ensures.value (subst (HasWritten c.start-out.result) c.new.ensures.items c.start-out.ensures)
    c.in_ok-write_record.ensures c.in_ok-write_seconds.ensures.adds c.in_ok-write_peaks.ensures gives)
    c.finish.ensures
