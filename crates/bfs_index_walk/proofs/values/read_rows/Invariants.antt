use Rattle.bfs_index_walk.proofs.values.read_rows.Given as goal

abbrev pub ghosts-rows_with : goal.ghosts-rows_with
ghosts-rows_with g a = record { name = a.ledger.name; parts = a.ledger.parts }
