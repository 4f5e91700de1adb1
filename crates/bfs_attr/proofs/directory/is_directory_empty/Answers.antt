use Rattle.std.proofs.Common.{◌∙◌, List, ap, arith}
use Rattle.std.specs.List.{filter}
use Rattle.bfs_base.specs.declared.kind.KeyKind.TheVariants.{Text}
use Rattle.bfs_node.specs.Page.{Row}
use Rattle.bfs_stream_pages.specs.Held.{stream_of}
use Rattle.bfs_values.specs.Rows.{rows_in}
use Rattle.bfs_sound.specs.Inodes.{is_proper}
use Rattle.bfs_attr.specs.Directories.{inode_rows}
use Rattle.bfs_make.specs.Sites.{stream_in}
use Rattle.bfs_attr.proofs.Listed.{all_between, no_rows}
use Rattle.bfs_attr.proofs.directory.is_directory_empty.Goals as goal

pub returns-in-Ok-clause-found : goal.returns-in-Ok-clause-found
returns-in-Ok-clause-found g c m told has =
    let rows : List Row = rows_in Text (stream_of (stream_in c.args.site c.args.directory) m) in
    no_rows (filter (λ row. is_proper row.0) rows) c.in-Ok.rows.items c.len.result (c.in-Ok.ensures.found m told has.0 has.1 ∙ ap inode_rows (all_between rows)) (omega (arith, c.len.ensures))

pub returns-in-Err-clause-found : goal.returns-in-Err-clause-found
returns-in-Err-clause-found g c m told has = c.in-Err.ensures.found m told has.0 has.1
