use Rattle.std.proofs.Common.{◌≡◌, ◌∙◌, ◌++◌, List, inr, sym, ap, map, subst, refl}
use Rattle.std.specs.List.{filter}
use Rattle.bfs_base.specs.declared.kind.KeyKind.TheVariants.{Text}
use Rattle.bfs_node.specs.Page.{Row}
use Rattle.bfs_super.specs.Geometry.{geometry_of}
use Rattle.bfs_stream_pages.specs.Held.{stream_of}
use Rattle.bfs_values.specs.Rows.{rows_in}
use Rattle.bfs_tree.specs.declared.rows.AttributeRow.{AttributeRow}
use Rattle.bfs_sound.specs.Inodes.{is_proper}
use Rattle.bfs_attr.specs.Bearers.{volume_at}
use Rattle.bfs_attr.specs.Directories.{inode_rows, kind_row, AreThere}
use Rattle.bfs_make.specs.Sites.{stream_in}
use Rattle.bfs_attr.proofs.Listed.{all_between, rows_there, kinds_are}
use Rattle.bfs_attr.proofs.Tops.{inode_fault}
use Rattle.bfs_attr.proofs.reading.rows_with.Goals as goal

pub returns-in-Ok-push_kinds-clause-found : goal.returns-in-Ok-push_kinds-clause-found
returns-in-Ok-push_kinds-clause-found g c m told tree inodes =
    let v = volume_at (geometry_of c.args.site.sup) m in
    let rows : List Row = rows_in Text (stream_of (stream_in c.args.site c.args.directory) m) in
    let is : c.deref.result.now ≡ inode_rows rows = c.deref.ensures.value ∙ c.in-Ok.ensures.found m told tree inodes ∙ ap inode_rows (all_between rows) in
    let there : AreThere m c.deref.result.now = subst (AreThere m) (sym is) (rows_there m (stream_in c.args.site) (λ k. refl) (filter (λ row. is_proper row.0) rows) (λ k h. c.requires.streams m told k (inr h))) in
    c.new.ensures ∙ c.in-Ok-push_kinds.ensures.found m (c.in-Ok.ensures.told ∙ told) there
    ∙ ap (λ (l : List AttributeRow). c.args.small.items ++ l) (ap (map (kind_row v)) is ∙ kinds_are v (filter (λ row. is_proper row.0) rows))

pub returns-clause-found : goal.returns-clause-found
returns-clause-found g c m told tree inodes =
    let rows : List Row = rows_in Text (stream_of (stream_in c.args.site c.args.directory) m) in
    let is : c.deref.result.now ≡ inode_rows rows = c.deref.ensures.value ∙ c.in-Ok.ensures.found m told tree inodes ∙ ap inode_rows (all_between rows) in
    let there : AreThere m c.deref.result.now = subst (AreThere m) (sym is) (rows_there m (stream_in c.args.site) (λ k. refl) (filter (λ row. is_proper row.0) rows) (λ k h. c.requires.streams m told k (inr h))) in
    c.in-Err-push_kinds.ensures.found m (c.in-Ok.ensures.told ∙ told) there

pub returns-clause-refused : goal.returns-clause-refused
returns-clause-refused g c m told =
    inode_fault (volume_at (geometry_of c.args.site.sup) m) c.args.directory c.in-Err-push_kinds.fault (g.B.Blocks.counts c.named_inodes.new.under) (g.B.Blocks.counts c.push_kinds.new.under)
    c.in-Err-push_kinds.ensures.page c.in-Err-push_kinds.ensures.cause (λ rows. returns-clause-found g c m told rows.0 rows.1)
