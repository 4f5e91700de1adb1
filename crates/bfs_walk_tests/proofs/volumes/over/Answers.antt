use Rattle.bfs_walk_tests.proofs.volumes.over.Goals as goal

pub new-requires : goal.new-requires
new-requires c = (16, c.requires)
