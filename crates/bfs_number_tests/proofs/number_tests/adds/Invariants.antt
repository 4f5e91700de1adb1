use Rattle.bfs_number_tests.proofs.number_tests.adds.Given as goal

abbrev pub ghosts-added : goal.ghosts-added
ghosts-added a = record { name = a.ledger.name; parts = a.ledger.parts }
