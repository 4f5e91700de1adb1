use Rattle.std.proofs.Common.{◌∙◌, List, Some, ap, arith}
use Rattle.std.specs.Option.{option_map}
use Rattle.bfs_base.specs.declared.kind.KeyKind.TheVariants.{Text}
use Rattle.bfs_node.specs.Page.{Row}
use Rattle.bfs_super.specs.Geometry.{geometry_of}
use Rattle.bfs_stream_pages.specs.Held.{stream_of}
use Rattle.bfs_values.specs.Rows.{rows_in}
use Rattle.bfs_sound.specs.Attributes.{attributes_of, attribute_at}
use Rattle.bfs_make.specs.Sites.{stream_in}
use Rattle.bfs_attr.specs.Bearers.{volume_at, value_at}
use Rattle.bfs_attr.specs.declared.directory.InodeRow.{InodeRow}
use Rattle.bfs_attr.proofs.Finds.{first_of, behind_is}
use Rattle.bfs_attr.proofs.Rowed.{some_first}
use Rattle.bfs_attr.proofs.directory.has_attribute_row.Goals as goal

pub returns-in-Ok-clause-found : goal.returns-in-Ok-clause-found
returns-in-Ok-clause-found g c m told has =
    let v = volume_at (geometry_of c.args.site.sup) m in
    let rows : List Row = rows_in Text (stream_of (stream_in c.args.site c.args.directory) m) in
    some_first (λ row. attribute_at v row.id) c.in-Ok.rows.items c.len.result (value_at (attributes_of v (Some c.args.directory)) c.args.name.now) (omega (arith, c.len.ensures))
    (ap (λ (l : List InodeRow). option_map (λ row. attribute_at v row.id) (first_of l)) (c.in-Ok.ensures.found m told has.0 has.1) ∙ behind_is v c.args.name.now rows)

pub returns-in-Err-clause-found : goal.returns-in-Err-clause-found
returns-in-Err-clause-found g c m told has = c.in-Err.ensures.found m told has.0 has.1
