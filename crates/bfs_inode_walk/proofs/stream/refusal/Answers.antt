use Rattle.std.proofs.Common.{◌++◌, ◌∷◌, refl}
use Rattle.bfs_stream.specs.Sizes.{Sizes, sizes_of}
use Rattle.bfs_stream.specs.Places.{blocks_of}
use Rattle.bfs_inode_walk.proofs.Claiming.{taken_before}
use Rattle.bfs_inode_walk.proofs.Counting.{shared_own}
use Rattle.bfs_inode_walk.proofs.stream.refusal.Goals as goal

pub returns-then-has_twice-clause-wrong : goal.returns-then-has_twice-clause-wrong
returns-then-has_twice-clause-wrong c v streamed are =
    let s : Sizes = sizes_of c.args.sup in
    shared_own v c.args.id c.args.block (c.args.id ∷ (blocks_of s c.args.arrays.now ++ blocks_of s c.args.runs.now)) streamed are (c.has_twice.ensures.twice c.if-has_twice.true)

pub returns-clause-taken : goal.returns-clause-taken
returns-clause-taken c xs twice =
    let s : Sizes = sizes_of c.args.sup in
    let t = taken_before xs (blocks_of s c.args.arrays.now ++ blocks_of s c.args.runs.now) c.args.id c.args.block twice (c.has_twice.ensures.once c.if-has_twice.false) in
    (refl, t.0, t.1)
