use Rattle.bfs_page_tests.proofs.tree_map_tests.is_table.Given as goal

abbrev pub ghosts-ranged : goal.ghosts-ranged
ghosts-ranged a = record { name = a.ledger.name; parts = a.ledger.parts }
