use Rattle.std.proofs.Common.{◌≡◌, ◌++◌, drop}
use Rattle.std.specs.Option.{option_map}
use Rattle.bfs_attr.specs.Directories.{inodes_among}
use Rattle.bfs_attr.proofs.directory.inodes_of.Given as goal

abbrev pub invariant-loop-row : goal.invariant-loop-row
invariant-loop-row l = option_map (λ ys. l.rows.items ++ ys) (inodes_among l.blocks (drop l.row-index l.ranged)) ≡ inodes_among l.blocks l.ranged
