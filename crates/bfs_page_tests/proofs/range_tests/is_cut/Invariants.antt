use Rattle.bfs_page_tests.proofs.range_tests.is_cut.Given as goal

abbrev pub ghosts-counted : goal.ghosts-counted
ghosts-counted a = record { name = a.ledger.name; parts = a.ledger.parts }
