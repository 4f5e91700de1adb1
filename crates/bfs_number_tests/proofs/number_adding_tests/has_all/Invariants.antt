use Rattle.bfs_number_tests.proofs.number_adding_tests.has_all.Given as goal

abbrev pub ghosts-meant : goal.ghosts-meant
ghosts-meant a = record { name = a.ledger.name; parts = a.ledger.parts }
