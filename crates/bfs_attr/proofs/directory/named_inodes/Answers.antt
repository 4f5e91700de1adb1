use Rattle.std.proofs.Common.{◌≡◌, ◌∙◌, ℕ, List, Some, refl, sym, ap₂, subst}
use Rattle.std.specs.Prelude.{◌&&◌}
use Rattle.std.specs.Option.{option_copied}
use Rattle.bfs_base.specs.declared.kind.KeyKind.TheVariants.{Text}
use Rattle.bfs_node.specs.Page.{Row}
use Rattle.bfs_super.specs.Conditions.{natural}
use Rattle.bfs_stream_pages.specs.Held.{stream_of}
use Rattle.bfs_range.specs.Answers.{answer_of}
use Rattle.bfs_range.specs.Ranges.{is_from, is_upto, rows_between}
use Rattle.bfs_range.specs.declared.ranged.RangedRow.{RangedRow}
use Rattle.bfs_values.specs.Rows.{rows_in}
use Rattle.bfs_sound.specs.Inodes.{is_proper}
use Rattle.bfs_super.specs.Geometry.{geometry_of}
use Rattle.bfs_attr.specs.Bearers.{volume_at}
use Rattle.bfs_attr.specs.Directories.{IsInodeRow, AreBelow, inode_rows, inodes_among}
use Rattle.bfs_make.specs.Sites.{stream_in}
use Rattle.bfs_attr.proofs.Listed.{found_inodes, still_inodes, below_among, short_undone}
use Rattle.bfs_attr.proofs.Tops.{few_blocks, directory_fault, shortage_fault}
use Rattle.bfs_attr.proofs.directory.named_inodes.Goals as goal

pub returns-in-Ok-inodes_of-clause-found : goal.returns-in-Ok-inodes_of-clause-found
returns-in-Ok-inodes_of-clause-found g c m told tree inodes =
    let n = natural c.args.site.sup.num_blocks in
    let b : List ℕ = stream_of (stream_in c.args.site c.args.directory) m in
    let low = option_copied c.args.low in
    let high = option_copied c.args.high in
    let rows : List Row = rows_between Text low high (rows_in Text b) in
    let good : inodes_among n (answer_of b rows) ≡ Some (inode_rows rows) =
    found_inodes n b rows (few_blocks c.args.site.sup c.requires.valid) (still_inodes (IsInodeRow n) (λ r. is_proper r.0) (λ r. is_from Text low r.0 && is_upto Text high r.0) (rows_in Text b) inodes) in
    let e : Some c.in-Ok-inodes_of.rows.items ≡ Some (inode_rows rows) =
    sym c.in-Ok-inodes_of.ensures.found ∙ ap₂ (λ (k : ℕ) (l : List RangedRow). inodes_among k l) c.blocks_in.ensures (c.in-Ok.ensures.rows m told tree) ∙ good in
    cc

pub returns-in-Ok-inodes_of-clause-below : goal.returns-in-Ok-inodes_of-clause-below
returns-in-Ok-inodes_of-clause-below g c =
    subst (λ (k : ℕ). AreBelow k c.in-Ok-inodes_of.rows.items) c.blocks_in.ensures (below_among c.blocks_in.result c.in-Ok.ranged c.in-Ok-inodes_of.rows.items c.in-Ok-inodes_of.ensures.found)

pub returns-clause-found : goal.returns-clause-found
returns-clause-found g c m told tree inodes =
    let n = natural c.args.site.sup.num_blocks in
    let b : List ℕ = stream_of (stream_in c.args.site c.args.directory) m in
    let low = option_copied c.args.low in
    let high = option_copied c.args.high in
    let rows : List Row = rows_between Text low high (rows_in Text b) in
    let good : inodes_among n (answer_of b rows) ≡ Some (inode_rows rows) =
    found_inodes n b rows (few_blocks c.args.site.sup c.requires.valid) (still_inodes (IsInodeRow n) (λ r. is_proper r.0) (λ r. is_from Text low r.0 && is_upto Text high r.0) (rows_in Text b) inodes) in
    short_undone c.blocks_in.result c.in-Ok.ranged c.in-Err-inodes_of.shortage c.args.directory c.fault_of.result (inode_rows rows) c.in-Err-inodes_of.ensures.refused c.fault_of.ensures
    (ap₂ (λ (k : ℕ) (l : List RangedRow). inodes_among k l) c.blocks_in.ensures (c.in-Ok.ensures.rows m told tree) ∙ good)

pub returns-in-Err-clause-refused : goal.returns-in-Err-clause-refused
returns-in-Err-clause-refused g c m told =
    directory_fault (volume_at (geometry_of c.args.site.sup) m) c.args.directory (stream_in c.args.site c.args.directory) m refl c.in-Err.fault (c.in-Err.ensures.refused m told)

pub returns-clause-refused : goal.returns-clause-refused
returns-clause-refused g c m told =
    shortage_fault (volume_at (geometry_of c.args.site.sup) m) c.args.directory c.in-Err-inodes_of.shortage c.fault_of.result c.fault_of.ensures
