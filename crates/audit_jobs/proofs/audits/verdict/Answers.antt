use Rattle.std.proofs.Common.{rules}
use Rattle.audit_jobs.proofs.audits.verdict.Goals as goal

pub returns-in_ok-line-in-Clean : goal.returns-in_ok-line-in-Clean
returns-in_ok-line-in-Clean c =
    let clean = c.in_ok-audit.ensures.clean.0 c.in-Clean.is in
    λ file arr report. ((clean, c.in_ok-audit.ensures.safe c.in-Clean.is, search rules), λ unclean. unclean clean)
