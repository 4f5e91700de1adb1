use Rattle.std.proofs.Common.{◌≡◌, drop}
use Rattle.bfs_attr_calls.specs.Left.{inode_named}
use Rattle.bfs_attr_calls.proofs.leaving.inode_named.Given as goal

abbrev pub invariant-loop-row : goal.invariant-loop-row
invariant-loop-row l = record {
  passed : inode_named (drop l.row-index l.rows) l.name ≡ inode_named l.rows l.name;
}
