use Rattle.bfs_journal_tests.proofs.groups.three_sealed.Goals as goal

pub loaded-requires-clause-sized : goal.loaded-requires-clause-sized
loaded-requires-clause-sized g c = (c.in-Ok-group_with.ensures.sized, c.in-Ok-group_with-2.ensures.sized, c.in-Ok-group_with-3.ensures.sized)
