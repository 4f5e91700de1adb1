use Rattle.bfs_page_tests.proofs.number_tests.works.Given as goal

abbrev pub ghosts-frees : goal.ghosts-frees
ghosts-frees a = record { name = a.ledger.name; parts = a.ledger.parts }

abbrev pub ghosts-widens : goal.ghosts-widens
ghosts-widens a = record { name = a.ledger.name; parts = a.ledger.parts }
