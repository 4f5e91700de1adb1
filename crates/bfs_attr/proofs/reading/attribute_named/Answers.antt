use Rattle.std.proofs.Common.{◌≡◌, ◌∙◌, List, inr, Option, Some, None, sym, ap, arith}
use Rattle.std.specs.Prelude.{◌&&◌}
use Rattle.std.specs.Option.{option_map}
use Rattle.bfs_base.specs.declared.kind.KeyKind.TheVariants.{Text}
use Rattle.bfs_node.specs.Page.{Row}
use Rattle.bfs_super.specs.Conditions.{natural}
use Rattle.bfs_super.specs.Geometry.{geometry_of}
use Rattle.bfs_stream_pages.specs.Held.{stream_of}
use Rattle.bfs_range.specs.Ranges.{is_from, is_upto, rows_between}
use Rattle.bfs_values.specs.Rows.{rows_in}
use Rattle.bfs_tree.specs.Trees.{Attribute}
use Rattle.bfs_maps.specs.Mapped.{HasReadable}
use Rattle.bfs_sound.specs.Attributes.{attribute_at}
use Rattle.bfs_sound.specs.Inodes.{is_proper}
use Rattle.bfs_attr.specs.Bearers.{volume_at}
use Rattle.bfs_attr.specs.Directories.{inode_rows}
use Rattle.bfs_make.specs.Sites.{stream_in}
use Rattle.bfs_attr.specs.declared.directory.InodeRow.{InodeRow}
use Rattle.bfs_attr.proofs.Finds.{first_of, first_none, first_is, first_below, first_in, behind_is}
use Rattle.bfs_attr.proofs.Tops.{inode_fault}
use Rattle.bfs_attr.proofs.reading.attribute_named.Goals as goal

pub returns-then-len-eq0-clause-found : goal.returns-then-len-eq0-clause-found
returns-then-len-eq0-clause-found g c m told tree inodes =
    let v = volume_at (geometry_of c.args.site.sup) m in
    let name = c.args.name.now in
    let rows : List Row = rows_in Text (stream_of (stream_in c.args.site c.args.directory) m) in
    let none : first_of c.in-Ok.rows.items ≡ None = first_none c.in-Ok.rows.items (omega (arith, c.len.ensures, c.if-len-eq0.true)) in
    ap (λ (o : Option InodeRow). option_map (λ row. attribute_at v row.id) o) (sym none)
    ∙ ap (λ (l : List InodeRow). option_map (λ row. attribute_at v row.id) (first_of l)) (c.in-Ok.ensures.found m told tree inodes)
    ∙ behind_is v name rows

pub attribute_in_inode-requires-clause-inside : goal.attribute_in_inode-requires-clause-inside
attribute_in_inode-requires-clause-inside g c =
    first_below (natural c.args.site.sup.num_blocks) c.in-Ok.rows.items c.index.result.now c.in-Ok.ensures.below (λ e. omega (arith, e, c.len.ensures, c.if-len-eq0.false)) c.index.ensures

pub returns-in-Ok-attribute_in_inode-clause-found : goal.returns-in-Ok-attribute_in_inode-clause-found
returns-in-Ok-attribute_in_inode-clause-found g c m told tree inodes =
    let v = volume_at (geometry_of c.args.site.sup) m in
    let name = c.args.name.now in
    let rows : List Row = rows_in Text (stream_of (stream_in c.args.site c.args.directory) m) in
    let x : InodeRow = c.index.result.now in
    let is = c.in-Ok.ensures.found m told tree inodes in
    let first : first_of c.in-Ok.rows.items ≡ Some x = first_is c.in-Ok.rows.items x (λ e. omega (arith, e, c.len.ensures, c.if-len-eq0.false)) c.index.ensures in
    let among : first_of (inode_rows (rows_between Text (Some name) (Some name) rows)) ≡ Some x = ap first_of (sym is) ∙ first in
    let can : HasReadable (stream_in c.args.site x.id) m = c.requires.streams m told x.id (inr (first_in (λ r. is_proper r.0) (λ r. is_from Text (Some name) r.0 && is_upto Text (Some name) r.0) rows x among)) in
    ap (λ (a : Attribute). Some a) (c.in-Ok-attribute_in_inode.ensures.found m (c.in-Ok.ensures.told ∙ told) can)
    ∙ ap (λ (o : Option InodeRow). option_map (λ row. attribute_at v row.id) o) (sym among)
    ∙ behind_is v name rows

pub returns-clause-found : goal.returns-clause-found
returns-clause-found g c m told tree inodes =
    let name = c.args.name.now in
    let rows : List Row = rows_in Text (stream_of (stream_in c.args.site c.args.directory) m) in
    let x : InodeRow = c.index.result.now in
    let is = c.in-Ok.ensures.found m told tree inodes in
    let first : first_of c.in-Ok.rows.items ≡ Some x = first_is c.in-Ok.rows.items x (λ e. omega (arith, e, c.len.ensures, c.if-len-eq0.false)) c.index.ensures in
    let among : first_of (inode_rows (rows_between Text (Some name) (Some name) rows)) ≡ Some x = ap first_of (sym is) ∙ first in
    let can : HasReadable (stream_in c.args.site x.id) m = c.requires.streams m told x.id (inr (first_in (λ r. is_proper r.0) (λ r. is_from Text (Some name) r.0 && is_upto Text (Some name) r.0) rows x among)) in
    c.in-Err-attribute_in_inode.ensures.found m (c.in-Ok.ensures.told ∙ told) can

pub returns-clause-refused : goal.returns-clause-refused
returns-clause-refused g c m told =
    inode_fault (volume_at (geometry_of c.args.site.sup) m) c.args.directory c.in-Err-attribute_in_inode.fault (g.B.Blocks.counts c.named_inodes.new.under) (g.B.Blocks.counts c.attribute_in_inode.new.under)
    c.in-Err-attribute_in_inode.ensures.page c.in-Err-attribute_in_inode.ensures.cause (λ rows. returns-clause-found g c m told rows.0 rows.1)
