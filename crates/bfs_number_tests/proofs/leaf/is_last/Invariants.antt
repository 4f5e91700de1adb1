use Rattle.bfs_number_tests.proofs.leaf.is_last.Given as goal

abbrev pub ghosts-removed : goal.ghosts-removed
ghosts-removed a = record { name = a.ledger.name; parts = a.ledger.parts }
