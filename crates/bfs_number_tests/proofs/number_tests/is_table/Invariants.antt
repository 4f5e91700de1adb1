use Rattle.bfs_number_tests.proofs.number_tests.is_table.Given as goal

abbrev pub ghosts-meant : goal.ghosts-meant
ghosts-meant a = record { name = a.ledger.name; parts = a.ledger.parts }
