use Rattle.std.proofs.Common.{◌≡◌, List, ◌∙◌, subst}
use Rattle.control_flow.specs.declared.greens.Green.{Green}
use Rattle.arrivals.specs.Amounts.{arriving_of}
use Rattle.net_simulator.specs.Sums.{end_of_run}
use Rattle.net_simulator.specs.Worlds.{line_in}
use Rattle.audit.specs.Safe.{IsSafe}
use Rattle.audit.specs.Audits.{IfClean, IsClean}
use Rattle.net_simulator.specs.Shown.{cumulative_of_lines}
use Rattle.audit.specs.declared.findings.Audited.{Audited}
use Rattle.queue_series.specs.Series.{IsSeries}
use Rattle.audit_jobs.proofs.queues.queues.Goals as goal

pub returns-in_ok-text-in-Clean : goal.returns-in_ok-text-in-Clean
returns-in_ok-text-in-Clean c =
    let net = c.args.net.now in
    let arriving = arriving_of c.args.arrivals.now in
    let sheet = c.args.sheet in
    let same : c.in-Clean.lines ≡ sheet.lines = subst (λ (a : Audited). IfClean a (λ (lines : List (List Green)). lines ≡ sheet.lines)) c.in-Clean.is c.in_ok-lines.ensures.lines in
    let clean : IsClean net arriving sheet = subst (λ (a : Audited). IfClean a (λ lines. IsClean net arriving sheet)) c.in-Clean.is c.in_ok-lines.ensures.clean in
    let safe : IsSafe net (line_in sheet.lines) = subst (λ (a : Audited). IfClean a (λ lines. IsSafe net (line_in sheet.lines))) c.in-Clean.is c.in_ok-lines.ensures.safe in
    let series : IsSeries net (cumulative_of_lines net arriving sheet.lines) (end_of_run net) c.in_ok-text-in-Clean.text.items =
    subst (λ (lines : List (List Green)). IsSeries net (cumulative_of_lines net arriving lines) (end_of_run net) c.in_ok-text-in-Clean.text.items) (c.as_slice.ensures ∙ same) c.in_ok-text-in-Clean.ensures in
    λ file arr report. ((clean, safe, series), λ unclean. unclean clean)
