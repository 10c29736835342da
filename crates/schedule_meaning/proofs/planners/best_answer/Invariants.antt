use Rattle.schedule_meaning.proofs.planners.best_answer.Given as goal

abbrev pub ghosts-best_in_ledger : goal.ghosts-best_in_ledger
ghosts-best_in_ledger g a = record { name = a.blank.name; parts = a.blank.parts }
