use Rattle.bfs_page_tests.proofs.tree_tests.found.Given as goal

abbrev pub ghosts-look : goal.ghosts-look
ghosts-look a = record { name = a.ledger.name; parts = a.ledger.parts }
