use Rattle.bfs_walk_tests.proofs.index_tests.over.Goals as goal

pub new-requires : goal.new-requires
new-requires c = (20, c.requires)
