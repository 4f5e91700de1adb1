use Rattle.bfs_index.proofs.changing.add_pair.Given as goal

abbrev pub ghosts-add_with : goal.ghosts-add_with
ghosts-add_with g a = record { name = a.ledger.name; parts = a.ledger.parts }
