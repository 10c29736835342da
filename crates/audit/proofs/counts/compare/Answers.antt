use Rattle.std.proofs.Common.{◌∙◌}
use Rattle.arrivals.specs.Amounts.{arriving_of}
use Rattle.audit.specs.declared.findings.AuditWhy.TheVariants.{Link, Total}
use Rattle.audit.proofs.Reasons.{bad, link-why, total-why}
use Rattle.audit.proofs.counts.compare.Goals as goal

pub returns-in-Some-clause-clean : goal.returns-in-Some-clause-clean
returns-in-Some-clause-clean c =
    bad c.args.net.now (arriving_of c.args.arrivals.now) (record { lines = c.args.lines.now; links = c.args.links.now; totals = c.args.totals }) (Link c.in-Some.link)
    (link-why c.args.net.now (arriving_of c.args.arrivals.now) (record { lines = c.args.lines.now; links = c.args.links.now; totals = c.args.totals }) c.in_ok-world.world c.in_ok-world.ensures.stands (c.in_ok-world.ensures.second ∙ c.end_of_run.ensures.value) c.requires.lawful c.in-Some.link c.in-Some.ensures.some)

pub returns-then-not-has_counted-clause-first : goal.returns-then-not-has_counted-clause-first
returns-then-not-has_counted-clause-first c =
    total-why c.args.net.now (arriving_of c.args.arrivals.now) (record { lines = c.args.lines.now; links = c.args.links.now; totals = c.args.totals }) c.in_ok-world.world c.in_ok-world.ensures.stands (c.in_ok-world.ensures.second ∙ c.end_of_run.ensures.value) c.requires.lawful c.in_default.ensures.none
    (λ e. let t = c.if-not-has_counted.ensures.1 e in absurd (cc))

pub returns-then-not-has_counted-clause-clean : goal.returns-then-not-has_counted-clause-clean
returns-then-not-has_counted-clause-clean c =
    bad c.args.net.now (arriving_of c.args.arrivals.now) (record { lines = c.args.lines.now; links = c.args.links.now; totals = c.args.totals }) Total (returns-then-not-has_counted-clause-first c)
