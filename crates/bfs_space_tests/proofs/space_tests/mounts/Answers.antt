use Rattle.std.proofs.Common.{rules}
use Rattle.bfs_space_tests.proofs.space_tests.mounts.Goals as goal

pub new-requires : goal.new-requires
new-requires c = (c.args.blocks, search rules)
