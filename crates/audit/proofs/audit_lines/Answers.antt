use Rattle.std.proofs.Common.{All, List, length, subst, sym, ap, ◌∙◌}
use Rattle.control_flow.specs.Greens.{IsInOrder}
use Rattle.control_flow.specs.declared.greens.Green.{Green}
use Rattle.arrivals.specs.Amounts.{arriving_of}
use Rattle.net_simulator.specs.Worlds.{line_in}
use Rattle.net_simulator.specs.declared.totals.LinkTotals.{LinkTotals}
use Rattle.signal_safety.proofs.Lines.{safe}
use Rattle.audit.specs.declared.sheet.Sheet.{Sheet}
use Rattle.audit.specs.Audits.{AreLawful, IfBad, IsClean, IsWhy}
use Rattle.audit.specs.declared.findings.Finding.{Finding}
use Rattle.audit.proofs.Reasons.{in-order, refutes}
use Rattle.audit.proofs.audit_lines.Goals as goal

pub returns-in-Some-clause-refused : goal.returns-in-Some-clause-refused
returns-in-Some-clause-refused c = refutes c.args.net.now (arriving_of c.args.arrivals.now) c.args.sheet c.in-Some.why (c.in-Some.ensures.some (arriving_of c.args.arrivals.now))

pub returns-in-Some-clause-first : goal.returns-in-Some-clause-first
returns-in-Some-clause-first c = c.in-Some.ensures.some (arriving_of c.args.arrivals.now)

pub timelines-requires : goal.timelines-requires
timelines-requires c = subst (All IsInOrder) (sym c.into_vec.ensures) (in-order c.args.net.now c.first_unlawful.ensures.network c.args.sheet.lines c.requires.shape.lines c.in_default.ensures.none)

pub compare-requires-clause-lawful : goal.compare-requires-clause-lawful
compare-requires-clause-lawful c = subst (AreLawful c.args.net.now) (sym (c.as_slice.ensures.value ∙ c.in_ok-lines.ensures ∙ c.into_vec.ensures)) c.in_default.ensures.none

pub compare-requires-clause-links : goal.compare-requires-clause-links
compare-requires-clause-links c = ap length c.as_slice-2.ensures ∙ c.requires.shape.links

pub returns-in-Clean-clause-lines : goal.returns-in-Clean-clause-lines
returns-in-Clean-clause-lines c = c.from_vec.ensures ∙ c.in_ok-lines.ensures ∙ c.into_vec.ensures

pub returns-in-Clean-clause-clean : goal.returns-in-Clean-clause-clean
returns-in-Clean-clause-clean c =
    subst (λ (lines : List (List Green)). IsClean c.args.net.now (arriving_of c.args.arrivals.now) (record { lines = lines; links = c.args.sheet.links; totals = c.args.sheet.totals }))
    (c.as_slice.ensures.value ∙ c.in_ok-lines.ensures ∙ c.into_vec.ensures)
    (subst (λ (links : List LinkTotals). IsClean c.args.net.now (arriving_of c.args.arrivals.now) (record { lines = c.as_slice.result.now; links = links; totals = c.args.sheet.totals }))
    c.as_slice-2.ensures (c.in_ok-compare.ensures.clean.0 c.in-Clean.is))

pub returns-in-Clean-clause-safe : goal.returns-in-Clean-clause-safe
returns-in-Clean-clause-safe c = safe c.args.net.now c.first_unlawful.ensures.network (line_in c.args.sheet.lines) c.in_default.ensures.none

pub returns-clause-first : goal.returns-clause-first
returns-clause-first c =
    subst (λ (lines : List (List Green)). IsWhy c.args.net.now (arriving_of c.args.arrivals.now) (record { lines = lines; links = c.args.sheet.links; totals = c.args.sheet.totals }) c.in-Bad.why)
    (c.as_slice.ensures.value ∙ c.in_ok-lines.ensures ∙ c.into_vec.ensures)
    (subst (λ (links : List LinkTotals). IsWhy c.args.net.now (arriving_of c.args.arrivals.now) (record { lines = c.as_slice.result.now; links = links; totals = c.args.sheet.totals }) c.in-Bad.why)
    c.as_slice-2.ensures
    (subst (λ (f : Finding). IfBad f (IsWhy c.args.net.now (arriving_of c.args.arrivals.now) (record { lines = c.as_slice.result.now; links = c.as_slice-2.result.now; totals = c.args.sheet.totals })))
    c.in-Bad.is c.in_ok-compare.ensures.first))

pub returns-clause-refused : goal.returns-clause-refused
returns-clause-refused c = refutes c.args.net.now (arriving_of c.args.arrivals.now) c.args.sheet c.in-Bad.why (returns-clause-first c)
