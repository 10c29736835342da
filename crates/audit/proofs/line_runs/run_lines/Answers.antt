use Rattle.std.proofs.Common.{List, sym, subst, ◌∙◌}
use Rattle.control_flow.specs.declared.greens.Green.{Green}
use Rattle.arrivals.specs.Amounts.{arriving_of}
use Rattle.net_simulator.specs.Worlds.{Stands, line_in, signs_by}
use Rattle.signal_safety.proofs.Lines.{safe}
use Rattle.audit.specs.SheetTexts.{HasShape}
use Rattle.audit.specs.Audits.{AreLawful, IsClean}
use Rattle.audit.proofs.LineRunLaws.{counted-shown, shown-clean, shown-shape}
use Rattle.audit.proofs.line_runs.run_lines.Goals as goal

pub returns-clause-value : goal.returns-clause-value
returns-clause-value c =
    counted-shown c.args.net.now (arriving_of c.args.arrivals.now) c.args.lines.items c.in_ok-world.world
    (subst (λ (lines : List (List Green)). Stands c.args.net.now (arriving_of c.args.arrivals.now) (signs_by (line_in lines)) c.in_ok-world.world) c.as_slice.ensures.value c.in_ok-world.ensures.stands)
    (c.in_ok-world.ensures.second ∙ c.end_of_run.ensures.value) c.from_vec.result c.from_vec-2.result c.totals.result c.from_vec.ensures (c.from_vec-2.ensures ∙ c.in_ok-links.ensures) c.totals.ensures.value

pub returns-clause-shape : goal.returns-clause-shape
returns-clause-shape c = subst (HasShape c.args.net.now) (sym (returns-clause-value c)) (shown-shape c.args.net.now (arriving_of c.args.arrivals.now) c.args.lines.items c.requires.nodes)

pub returns-clause-clean : goal.returns-clause-clean
returns-clause-clean c = subst (IsClean c.args.net.now (arriving_of c.args.arrivals.now)) (sym (returns-clause-value c)) (shown-clean c.args.net.now (arriving_of c.args.arrivals.now) c.args.lines.items c.requires.lawful)

pub returns-clause-safe : goal.returns-clause-safe
returns-clause-safe c = safe c.args.net.now c.law_of_network.ensures (line_in c.from_vec.result) (subst (AreLawful c.args.net.now) (sym c.from_vec.ensures) c.requires.lawful)
