use Rattle.bfs_tree_walk_tests.proofs.name_tests.walk_in.Given as goal

abbrev pub ghosts-walk : goal.ghosts-walk
ghosts-walk a = record { name = a.ledger.name; parts = a.ledger.parts }
