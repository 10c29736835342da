use Rattle.parallel_dp.proofs.layers.next_of_piece.Given as goal

abbrev pub ghosts-next_in_ledger : goal.ghosts-next_in_ledger
ghosts-next_in_ledger a = record { name = a.blank.name; parts = a.blank.parts }
