use Rattle.std.proofs.Common.{◌≡◌, ◌∙◌, List, ap}
use Rattle.bfs_base.specs.declared.kind.KeyKind.TheVariants.{Text}
use Rattle.bfs_node.specs.Page.{Row}
use Rattle.bfs_super.specs.Geometry.{geometry_of}
use Rattle.bfs_values.specs.Rows.{rows_in}
use Rattle.bfs_sound.specs.Inodes.{content}
use Rattle.bfs_attr.specs.Bearers.{volume_at}
use Rattle.bfs_attr.specs.Directories.{inode_rows}
use Rattle.bfs_unmake.proofs.Numbers.{all_between}
use Rattle.bfs_attr_calls.proofs.Leaves.{given_is}
use Rattle.bfs_attr_calls.proofs.leaving.left_in.Goals as goal

pub returns-in-Err-clause-found : goal.returns-in-Err-clause-found
returns-in-Err-clause-found g c m told has = c.in-Err.ensures.found m told has.0 has.1

pub returns-in-Ok-ids_left-clause-found : goal.returns-in-Ok-ids_left-clause-found
returns-in-Ok-ids_left-clause-found g c m told has =
    let v = volume_at (geometry_of c.args.site.sup) m in
    let rows : List Row = rows_in Text (content v c.args.directory) in
    let are : c.deref.result.now ≡ inode_rows rows = c.deref.ensures.value ∙ c.in-Ok.ensures.found m told has.0 has.1 ∙ ap inode_rows (all_between rows) in
    c.in-Ok-ids_left.ensures ∙ given_is c.args.name.now v c.args.directory c.deref.result.now are
