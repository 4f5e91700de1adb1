use Rattle.bfs_map_tests.proofs.reader_tests.is_filled.Given as goal

abbrev pub ghosts-read : goal.ghosts-read
ghosts-read a = record { name = a.ledger.name; parts = a.ledger.parts }
