use Rattle.bfs_page_tests.proofs.tree_tests.said.Given as goal

abbrev pub ghosts-put_one : goal.ghosts-put_one
ghosts-put_one a = record { name = a.ledger.name; parts = a.ledger.parts }
