use Rattle.std.proofs.Common.{◌≡◌, ◌∙◌, List, sym, ap, subst}
use Rattle.bfs_base.specs.declared.kind.KeyKind.TheVariants.{Text}
use Rattle.bfs_node.specs.Page.{Row}
use Rattle.bfs_super.specs.Conditions.{natural}
use Rattle.bfs_super.specs.Geometry.{geometry_of}
use Rattle.bfs_values.specs.Rows.{rows_in}
use Rattle.bfs_sound.specs.Inodes.{content}
use Rattle.bfs_attr.specs.Bearers.{volume_at}
use Rattle.bfs_attr.specs.Directories.{AreBelow, inode_rows}
use Rattle.bfs_unmake.proofs.Numbers.{all_between, gathered, gathered_below}
use Rattle.bfs_unmake.proofs.inodes.push_directory.Goals as goal

pub returns-in-Ok-push_inodes-clause-found : goal.returns-in-Ok-push_inodes-clause-found
returns-in-Ok-push_inodes-clause-found g c m told has =
    let rows : List Row = rows_in Text (content (volume_at (geometry_of c.args.site.sup) m) c.args.directory) in
    let named : c.deref.result.now ≡ inode_rows rows = c.deref.ensures.value ∙ c.in-Ok.ensures.found m told has.0 has.1 ∙ ap inode_rows (all_between rows) in
    gathered c.args.ids.now.items c.push.new.self.items c.push_inodes.new.ids.items c.args.directory c.deref.result.now rows c.in-Ok-push.ensures.items c.in-Ok-push_inodes.ensures named

pub returns-in-Ok-push_inodes-clause-below : goal.returns-in-Ok-push_inodes-clause-below
returns-in-Ok-push_inodes-clause-below g c all =
    gathered_below (natural c.args.site.sup.num_blocks) c.args.ids.now.items c.push.new.self.items c.push_inodes.new.ids.items c.args.directory c.deref.result.now all c.requires.inside
    (subst (AreBelow (natural c.args.site.sup.num_blocks)) (sym c.deref.ensures.value) c.in-Ok.ensures.below) c.in-Ok-push.ensures.items c.in-Ok-push_inodes.ensures

pub returns-in-Err-clause-found : goal.returns-in-Err-clause-found
returns-in-Err-clause-found g c m told has = c.in-Err.ensures.found m told has.0 has.1
