use Rattle.bfs_number_tests.proofs.number_adding_tests.value_at.Given as goal

abbrev pub ghosts-read : goal.ghosts-read
ghosts-read a = record { name = a.ledger.name; parts = a.ledger.parts }
