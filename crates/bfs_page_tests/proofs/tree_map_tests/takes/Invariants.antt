use Rattle.bfs_page_tests.proofs.tree_map_tests.takes.Given as goal

abbrev pub ghosts-take : goal.ghosts-take
ghosts-take a = record { name = a.ledger.name; parts = a.ledger.parts }
