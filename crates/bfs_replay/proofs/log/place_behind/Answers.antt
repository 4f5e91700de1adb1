use Rattle.std.proofs.Common.{arith}
use Rattle.bfs_super.specs.Geometry.{geometry_of}
use Rattle.bfs_replay.proofs.Sizes.{ring_low}
use Rattle.bfs_replay.proofs.log.place_behind.Goals as goal

pub overflow_add-count_blocks : goal.overflow_add-count_blocks
overflow_add-count_blocks c = omega (arith, c.count_blocks.ensures (geometry_of c.args.sup.now), c.requires.inside, ring_low c.args.sup.now c.requires.valid)
