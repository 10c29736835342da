use Rattle.parallel_dp.proofs.whole_certificates.certify_par.Given as goal

abbrev pub ghosts-answer_in_ledger : goal.ghosts-answer_in_ledger
ghosts-answer_in_ledger g a = record { name = a.blank.name; parts = a.blank.parts }
