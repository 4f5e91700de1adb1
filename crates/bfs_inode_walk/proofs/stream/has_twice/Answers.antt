use Rattle.bfs_stream.specs.Sizes.{Sizes, sizes_of}
use Rattle.bfs_stream.specs.Places.{blocks_of}
use Rattle.bfs_inode_walk.proofs.Counting.{counted_twice, counted_once}
use Rattle.bfs_inode_walk.proofs.stream.has_twice.Goals as goal

pub returns-clause-twice : goal.returns-clause-twice
returns-clause-twice c more =
    let s : Sizes = sizes_of c.args.sup in
    counted_twice c.args.id c.args.block (blocks_of s c.args.arrays.now) (blocks_of s c.args.runs.now) c.own_count-own.result c.count_in-in_arrays.result c.count_in-in_runs.result c.min.result c.min-2.result
    c.own_count-own.ensures c.count_in-in_arrays.ensures c.count_in-in_runs.ensures c.min.ensures c.min-2.ensures more

pub returns-clause-once : goal.returns-clause-once
returns-clause-once c few =
    let s : Sizes = sizes_of c.args.sup in
    counted_once c.args.id c.args.block (blocks_of s c.args.arrays.now) (blocks_of s c.args.runs.now) c.own_count-own.result c.count_in-in_arrays.result c.count_in-in_runs.result c.min.result c.min-2.result
    c.own_count-own.ensures c.count_in-in_arrays.ensures c.count_in-in_runs.ensures c.min.ensures c.min-2.ensures few
