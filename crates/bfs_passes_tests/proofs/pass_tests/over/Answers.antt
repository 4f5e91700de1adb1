use Rattle.bfs_passes_tests.proofs.pass_tests.over.Goals as goal

pub new-requires : goal.new-requires
new-requires c = (24, c.requires)
