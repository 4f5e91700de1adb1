use Rattle.std.proofs.Common.{◌∙◌, ◌++◌, List, ap}
use Rattle.std.specs.Option.{option_map}
use Rattle.bfs_attr.specs.Directories.{inodes_among}
use Rattle.bfs_attr.specs.declared.directory.InodeRow.{InodeRow}
use Rattle.bfs_attr.proofs.Listed.{among_start}
use Rattle.bfs_attr.proofs.directory.inodes_of.Goals as goal

pub loop-row-init : goal.loop-row-init
loop-row-init c = ap (λ (l : List InodeRow). option_map (λ ys. l ++ ys) (inodes_among c.args.blocks c.args.ranged.now)) c.new-rows.ensures.items ∙ among_start c.args.blocks c.args.ranged.now
