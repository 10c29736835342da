use Rattle.std.proofs.Common.{slice_index, subst, sym}
use Rattle.arrivals.specs.Amounts.{arriving_of}
use Rattle.spillback_control.specs.SpillRounds.{HaveSpilled}
use Rattle.spillback_control.specs.declared.records.SpillRun.{SpillRun}
use Rattle.spillback_control.proofs.RunLaws.{counted, last-show, none-spilled, record-lawful, record-safe, recorded}
use Rattle.spillback_control.proofs.spill_runs.spill_run.Goals as goal
use Rattle.actuated.specs.ActSteps.{act_rounds}

pub play_rounds-requires-clause-first : goal.play_rounds-requires-clause-first
play_rounds-requires-clause-first c =
    none-spilled c.args.net.now (arriving_of c.args.arrivals.now) (slice_index c.args.store.now) c.in_ok-lines.lines.items c.in_ok-world.world c.in_ok-lines.ensures c.in_ok-world.ensures.second
    (λ shown. c.in_ok-world.ensures.stands (arriving_of c.args.arrivals.now) (slice_index c.args.store.now) shown)

pub returns-clause-run : goal.returns-clause-run
returns-clause-run c =
    let run : SpillRun = record { timelines = c.from_vec.result; totals = c.totals.result } in
    let a = subst (λ lines. HaveSpilled c.args.net.now (arriving_of c.args.arrivals.now) (slice_index c.args.store.now) (act_rounds c.args.net.now) lines c.play_rounds.new.world) (sym c.from_vec.ensures) c.in_ok-lines-2.ensures in
    recorded c.args.net.now c.law_of_network.ensures (arriving_of c.args.arrivals.now) (slice_index c.args.store.now) c.play_rounds.new.world run a c.totals.ensures.value

pub returns-clause-lawful : goal.returns-clause-lawful
returns-clause-lawful c =
    let run : SpillRun = record { timelines = c.from_vec.result; totals = c.totals.result } in
    record-lawful c.args.net.now c.law_of_network.ensures (arriving_of c.args.arrivals.now) (slice_index c.args.store.now) run (returns-clause-run c)

pub returns-clause-safe : goal.returns-clause-safe
returns-clause-safe c =
    let run : SpillRun = record { timelines = c.from_vec.result; totals = c.totals.result } in
    record-safe c.args.net.now c.law_of_network.ensures (arriving_of c.args.arrivals.now) (slice_index c.args.store.now) run (returns-clause-run c)

pub returns-clause-signs : goal.returns-clause-signs
returns-clause-signs c is = last-show c.args.net.now c.law_of_network.ensures (arriving_of c.args.arrivals.now) (slice_index c.args.store.now) c.totals.result is.actuated

pub returns-clause-counts : goal.returns-clause-counts
returns-clause-counts c =
    let run : SpillRun = record { timelines = c.from_vec.result; totals = c.totals.result } in
    let a = subst (λ lines. HaveSpilled c.args.net.now (arriving_of c.args.arrivals.now) (slice_index c.args.store.now) (act_rounds c.args.net.now) lines c.play_rounds.new.world) (sym c.from_vec.ensures) c.in_ok-lines-2.ensures in
    counted c.args.net.now c.law_of_network.ensures (arriving_of c.args.arrivals.now) (slice_index c.args.store.now) c.play_rounds.new.world run a c.totals.ensures.value
