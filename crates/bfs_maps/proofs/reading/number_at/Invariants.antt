use Rattle.bfs_maps.proofs.reading.number_at.Given as goal

abbrev pub ghosts-number_with : goal.ghosts-number_with
ghosts-number_with g a = record { name = a.ledger.name; parts = a.ledger.parts }
