use Rattle.library_tests.proofs.planner.servings.first_served.Given as goal

abbrev pub ghosts-first_counted : goal.ghosts-first_counted
ghosts-first_counted a = record { name = a.blank.name; parts = a.blank.parts }
