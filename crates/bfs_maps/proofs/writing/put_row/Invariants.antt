use Rattle.bfs_maps.proofs.writing.put_row.Given as goal

abbrev pub ghosts-put_with : goal.ghosts-put_with
ghosts-put_with g a = record { name = a.ledger.name; parts = a.ledger.parts }
