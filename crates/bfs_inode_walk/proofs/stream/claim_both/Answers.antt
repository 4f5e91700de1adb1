use Rattle.std.proofs.Common.{◌++◌}
use Rattle.bfs_stream.specs.Sizes.{Sizes, sizes_of}
use Rattle.bfs_stream.specs.Places.{blocks_of}
use Rattle.bfs_inode_walk.proofs.Claiming.{claimed_both, twice_front, twice_behind}
use Rattle.bfs_inode_walk.proofs.stream.claim_both.Goals as goal

pub returns-in-Err-clause-twice : goal.returns-in-Err-clause-twice
returns-in-Err-clause-twice c xs a =
    let s : Sizes = sizes_of c.args.sup in
    twice_front xs (blocks_of s c.args.arrays.now) (blocks_of s c.args.runs.now) c.in-Err.block (c.in-Err.ensures.twice xs a)

pub returns-in-Ok-claim_runs-clause-claimed : goal.returns-in-Ok-claim_runs-clause-claimed
returns-in-Ok-claim_runs-clause-claimed c xs a =
    let s : Sizes = sizes_of c.args.sup in
    claimed_both _ xs (blocks_of s c.args.arrays.now) (blocks_of s c.args.runs.now) (c.in-Ok-claim_runs.ensures.claimed (xs ++ blocks_of s c.args.arrays.now) (c.in-Ok.ensures.claimed xs a))

pub returns-in-Err-claim_runs-clause-twice : goal.returns-in-Err-claim_runs-clause-twice
returns-in-Err-claim_runs-clause-twice c xs a =
    let s : Sizes = sizes_of c.args.sup in
    twice_behind xs (blocks_of s c.args.arrays.now) (blocks_of s c.args.runs.now) c.in-Err-claim_runs.block (c.in-Err-claim_runs.ensures.twice (xs ++ blocks_of s c.args.arrays.now) (c.in-Ok.ensures.claimed xs a))
