use Rattle.planner_jobs.proofs.certify.certificate_of_file.Given as goal

abbrev pub ghosts-certificate_in_ledger : goal.ghosts-certificate_in_ledger
ghosts-certificate_in_ledger g a = record { name = a.blank.name; parts = a.blank.parts }
