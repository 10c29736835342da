use Rattle.library_tests.proofs.planner.servings.replayed.Given as goal

abbrev pub ghosts-replay_counted : goal.ghosts-replay_counted
ghosts-replay_counted a = record { name = a.blank.name; parts = a.blank.parts }
