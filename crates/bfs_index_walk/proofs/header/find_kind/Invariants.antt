use Rattle.bfs_index_walk.proofs.header.find_kind.Given as goal

abbrev pub ghosts-kind_with : goal.ghosts-kind_with
ghosts-kind_with g a = record { name = a.ledger.name; parts = a.ledger.parts }
