use Rattle.bfs_number_tests.proofs.leaf.writes.Given as goal

abbrev pub ghosts-write_value : goal.ghosts-write_value
ghosts-write_value a = record { name = a.ledger.name; parts = a.ledger.parts }
