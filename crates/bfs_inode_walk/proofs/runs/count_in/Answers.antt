use Rattle.std.proofs.Common.{rules, ◌≤◌, ◌<◌, length, pos, refl, sym, arith}
use Rattle.bfs_bytes.specs.declared.Run.{Run}
use Rattle.bfs_stream.specs.Sizes.{sizes_of}
use Rattle.bfs_inode_walk.proofs.Claiming.{counted_next, counted_all}
use Rattle.bfs_inode_walk.proofs.runs.count_in.Goals as goal

pub loop-i-init : goal.loop-i-init
loop-i-init c = record { count = refl; few = omega arith }

pub overflow_add-count : goal.overflow_add-count
overflow_add-count c = search (rules, c.loop-i.invariant.few, c.count_of-more.ensures.once)

pub loop-i-preserved : goal.loop-i-preserved
loop-i-preserved c =
    let none : Run = record { group = pos 0; start = 0; len = 0 } in
    let inside : c.loop-i.i < length c.args.runs.now = c.loop-i-test.true in
    let few = c.loop-i.invariant.few in
    let once = c.count_of-more.ensures.once in record {
      count = counted_next (sizes_of c.args.sup) c.args.runs.now c.loop-i.i none inside c.args.block c.loop-i.count c.count_of-more.result c.loop-i.invariant.count (sym c.count_of-more.ensures.count);
      few = omega (arith, few, once);
    }

pub returns : goal.returns
returns c =
    let past : length c.args.runs.now ≤ c.loop-i.i = omega arith in
    counted_all (sizes_of c.args.sup) c.args.runs.now c.loop-i.i c.args.block c.loop-i.count past c.loop-i.invariant.count
