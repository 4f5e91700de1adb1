use Rattle.bfs_tree_check.proofs.Rising.{sought_of}
use Rattle.bfs_tree_check.proofs.order.is_above.Goals as goal

pub compare-requires-clause-sought : goal.compare-requires-clause-sought
compare-requires-clause-sought c = sought_of c.args.kind c.args.key.now c.requires.kind c.requires.key
