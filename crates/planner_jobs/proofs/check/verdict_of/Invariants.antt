use Rattle.planner_jobs.proofs.check.verdict_of.Given as goal

abbrev pub ghosts-verdict_in_ledger : goal.ghosts-verdict_in_ledger
ghosts-verdict_in_ledger a = record { name = a.blank.name; parts = a.blank.parts }
