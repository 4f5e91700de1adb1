use Rattle.bfs_page_tests.proofs.tree_map_tests.puts.Given as goal

abbrev pub ghosts-put : goal.ghosts-put
ghosts-put a = record { name = a.ledger.name; parts = a.ledger.parts }
