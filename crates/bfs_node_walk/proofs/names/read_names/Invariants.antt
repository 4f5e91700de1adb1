use Rattle.bfs_node_walk.proofs.names.read_names.Given as goal

abbrev pub ghosts-names_with : goal.ghosts-names_with
ghosts-names_with g a = record { name = a.ledger.name; parts = a.ledger.parts }
