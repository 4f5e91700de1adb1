use Rattle.bfs_maps.proofs.writing.take_row.Given as goal

abbrev pub ghosts-take_with : goal.ghosts-take_with
ghosts-take_with g a = record { name = a.ledger.name; parts = a.ledger.parts }
