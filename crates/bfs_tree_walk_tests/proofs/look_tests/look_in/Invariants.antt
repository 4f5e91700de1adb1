use Rattle.bfs_tree_walk_tests.proofs.look_tests.look_in.Given as goal

abbrev pub ghosts-look : goal.ghosts-look
ghosts-look a = record { name = a.ledger.name; parts = a.ledger.parts }
