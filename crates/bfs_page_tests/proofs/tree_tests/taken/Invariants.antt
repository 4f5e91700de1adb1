use Rattle.bfs_page_tests.proofs.tree_tests.taken.Given as goal

abbrev pub ghosts-take_one : goal.ghosts-take_one
ghosts-take_one a = record { name = a.ledger.name; parts = a.ledger.parts }
