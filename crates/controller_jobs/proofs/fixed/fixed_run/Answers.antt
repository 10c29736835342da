use Rattle.std.proofs.Common.{◌≡◌, List, length, sym, ap, subst, ◌∙◌}
use Rattle.std.proofs.lemmas.Result.{IfOk-weaker}
use Rattle.std.proofs.lemmas.List.FromFn.{length-map-range_with_len}
use Rattle.arrivals.specs.Amounts.{arriving_of}
use Rattle.fixed_plans.specs.FixedBounds.{fixed_bounds}
use Rattle.fixed_plans.specs.Lines.{fixed_line}
use Rattle.audit.specs.LineRuns.{sheet_of, shown_sheet}
use Rattle.audit.specs.declared.line_runs.LineRun.{LineRun}
use Rattle.audit.specs.declared.sheet.Sheet.{Sheet}
use Rattle.control_flow.specs.declared.greens.Green.{Green}
use Rattle.net_simulator.specs.Shown.{cumulative_of_lines}
use Rattle.net_simulator.specs.Sums.{end_of_run}
use Rattle.waits.specs.Discharges.{AreWaitsWithin}
use Rattle.controller_jobs.specs.Controllers.{fixed_timelines}
use Rattle.controller_jobs.proofs.fixed.fixed_run.Goals as goal

pub run_lines-requires-clause-nodes : goal.run_lines-requires-clause-nodes
run_lines-requires-clause-nodes c = ap length c.in_ok-lines.ensures.value ∙ length-map-range_with_len (fixed_line c.args.net.now c.args.plan.now) 0 (length c.args.net.now.node_names)

pub returns-clause-value : goal.returns-clause-value
returns-clause-value c =
    let net = c.args.net.now in
    IfOk-weaker c.run_lines.result (λ (run : LineRun). sheet_of run ≡ shown_sheet net (arriving_of c.args.arrivals.now) c.in_ok-lines.lines.items)
    (λ (run : LineRun). sheet_of run ≡ shown_sheet net (arriving_of c.args.arrivals.now) (fixed_timelines net c.args.plan.now))
    (λ run is. is ∙ ap (shown_sheet net (arriving_of c.args.arrivals.now)) c.in_ok-lines.ensures.value) c.run_lines.ensures.value

pub returns-clause-waits : goal.returns-clause-waits
returns-clause-waits c =
    let net = c.args.net.now in
    let arriving = arriving_of c.args.arrivals.now in
    IfOk-weaker c.run_lines.result (λ (run : LineRun). sheet_of run ≡ shown_sheet net arriving c.in_ok-lines.lines.items)
    (λ (run : LineRun). AreWaitsWithin net (fixed_bounds net c.args.plan.now) (cumulative_of_lines net arriving run.timelines) (end_of_run net))
    (λ run is. subst (λ (lines : List (List Green)). AreWaitsWithin net (fixed_bounds net c.args.plan.now) (cumulative_of_lines net arriving lines) (end_of_run net)) (sym (ap (λ (s : Sheet). s.lines) is)) (c.in_ok-lines.ensures.waits arriving)) c.run_lines.ensures.value
