use Rattle.bfs_tree_walk_tests.proofs.value_tests.is_wrong.Given as goal

abbrev pub ghosts-walk : goal.ghosts-walk
ghosts-walk a = record { name = a.ledger.name; parts = a.ledger.parts }
