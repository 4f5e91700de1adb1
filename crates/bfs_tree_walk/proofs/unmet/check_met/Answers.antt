use Rattle.std.proofs.Common.{◌<◌, arith}
use Rattle.bfs_tree_walk.proofs.Wholly.{held_low}
use Rattle.bfs_tree_walk.proofs.unmet.check_met.Goals as goal

pub lost-requires : goal.lost-requires
lost-requires c =
    let low : c.first_unmarked-at.result < c.args.size = held_low c.args.size c.first_unmarked-at.result (c.first_unmarked-at.ensures.some c.if-at-size.false).0 in
    let small = c.requires.small in
    omega (arith, low, small)

pub returns-clause-unmet : goal.returns-clause-unmet
returns-clause-unmet c =
    let some = c.first_unmarked-at.ensures.some c.if-at-size.false in
    record { page = c.first_unmarked-at.result; is = c.lost.ensures; there = some.0; none = some.1 }
