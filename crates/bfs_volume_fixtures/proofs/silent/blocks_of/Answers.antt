use Rattle.bfs_volume_fixtures.proofs.silent.blocks_of.Goals as goal

pub new-requires : goal.new-requires
new-requires c = (4096, c.requires)
