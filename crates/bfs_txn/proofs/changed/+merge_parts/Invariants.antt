use Rattle.std.proofs.Common.{length, ◌-◌}
use Rattle.bfs_txn.proofs.changed.+merge_parts.Given as goal

abbrev pub decreases-merge_parts : goal.decreases-merge_parts
decreases-merge_parts l = length l.blocks.now - l.mid
