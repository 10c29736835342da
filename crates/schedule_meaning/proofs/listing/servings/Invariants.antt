use Rattle.schedule_meaning.proofs.listing.servings.Given as goal

abbrev pub ghosts-servings_in_ledger : goal.ghosts-servings_in_ledger
ghosts-servings_in_ledger a = record { name = a.blank.name; parts = a.blank.parts }
