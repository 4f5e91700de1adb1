use Rattle.bfs_block_tests.proofs.change_tests.steps_are_counted_in_a_blank_ledger.Given as goal

abbrev pub ghosts-counted : goal.ghosts-counted
ghosts-counted a = record { name = a.ledger.name; parts = a.ledger.parts }
