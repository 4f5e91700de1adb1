use Rattle.std.proofs.Common.{◌≡◌, ◌∙◌, ◌++◌, ℕ, Option, sym, ap, subst}
use Rattle.std.specs.Prelude.{IfErr}
use Rattle.bfs_super.specs.Geometry.{geometry_of}
use Rattle.bfs_smalldata.specs.Items.{items_of}
use Rattle.bfs_stream.specs.Told.{contents}
use Rattle.bfs_tree.specs.Answers.{rows_of_attributes}
use Rattle.bfs_maps.specs.Refused.{IsUndone}
use Rattle.bfs_sound.specs.Attributes.{attributes_of, attribute_directory}
use Rattle.bfs_sound.specs.Inodes.{inodes_of}
use Rattle.bfs_sound.specs.Owners.{In}
use Rattle.bfs_attr.specs.Bearers.{volume_at, entries_at}
use Rattle.bfs_attr.specs.Directories.{directory_in}
use Rattle.bfs_attr.specs.Refused.{IsDirectoryFault}
use Rattle.bfs_attr.proofs.Tops.{area_is, directory_is, rows_are, ok_map, read_refused, attribute_fault}
use Rattle.bfs_attr.proofs.reading.rows_of.Goals as goal

pub returns-in-Err-area_rows-clause-found : goal.returns-in-Err-area_rows-clause-found
returns-in-Err-area_rows-clause-found g c m told has =
    let now = c.deref.result.now in
    let e : now ≡ contents m c.args.inode = c.deref.ensures.value ∙ c.in-Ok.ensures.read m told (c.requires.readable m told).inode in
    c.in-Err-area_rows.ensures.found has.items (ap items_of (area_is now (contents m c.args.inode) e) ∙ has.area)

pub returns-in-Err-area_rows-clause-refused : goal.returns-in-Err-area_rows-clause-refused
returns-in-Err-area_rows-clause-refused g c m told =
    let v = volume_at (geometry_of c.args.site.sup) m in
    let now = c.deref.result.now in
    let e : now ≡ contents m c.args.inode = c.deref.ensures.value ∙ c.in-Ok.ensures.read m told (c.requires.readable m told).inode in
    attribute_fault v c.args.inode c.in-Err-area_rows.fault (g.B.Blocks.counts c.args.under.now) (g.B.Blocks.counts c.read_block.new.under)
    (c.in-Err-area_rows.ensures.blamed v (attribute_directory v c.args.inode))
    (c.in-Err-area_rows.ensures.cause (g.B.Blocks.counts c.args.under.now) (g.B.Blocks.counts c.read_block.new.under))
    (λ has. c.in-Err-area_rows.ensures.found has.items (ap items_of (area_is now (contents m c.args.inode) e) ∙ has.area))

pub returns-in-Err-area_rows-clause-cause : goal.returns-in-Err-area_rows-clause-cause
returns-in-Err-area_rows-clause-cause g c = c.in-Err-area_rows.ensures.cause (g.B.Blocks.counts c.args.under.now) (g.B.Blocks.counts c.read_block.new.under)

pub rows_behind-requires-clause-streams : goal.rows_behind-requires-clause-streams
rows_behind-requires-clause-streams g c m told k h =
    let can = c.requires.readable m (sym c.in-Ok.ensures.told ∙ told) in
    let e : c.deref-2.result.now ≡ contents m c.args.inode = c.deref-2.ensures.value ∙ c.in-Ok.ensures.read m (sym c.in-Ok.ensures.told ∙ told) can.inode in
    can.streams k (subst (λ (o : Option ℕ). In k (inodes_of (volume_at (geometry_of c.args.site.sup) m) o)) (directory_is c.args.site.sup m c.args.inode c.deref-2.result.now e) h)

pub returns-clause-found : goal.returns-clause-found
returns-clause-found g c m told has =
    let v = volume_at (geometry_of c.args.site.sup) m in
    let now = c.deref.result.now in
    let can = c.requires.readable m told in
    let e : now ≡ contents m c.args.inode = c.deref.ensures.value ∙ c.in-Ok.ensures.read m told can.inode in
    let f : c.deref-2.result.now ≡ contents m c.args.inode = c.deref-2.ensures.value ∙ c.in-Ok.ensures.read m told can.inode in
    let o = directory_in c.args.site.sup c.deref-2.result.now in
    let small = c.in-Ok-area_rows.ensures.found has.items (ap items_of (area_is now (contents m c.args.inode) e) ∙ has.area) in
    ok_map c.rows_behind.result (λ rows. rows ≡ c.in-Ok-area_rows.small.items ++ rows_of_attributes (attributes_of v o)) (λ rows. rows ≡ rows_of_attributes (entries_at v c.args.inode)) IsUndone
    (λ rows h. h ∙ rows_are v c.args.inode has c.in-Ok-area_rows.small.items small o (directory_is c.args.site.sup m c.args.inode c.deref-2.result.now f))
    (c.rows_behind.ensures.found m (c.in-Ok.ensures.told ∙ told) f has)

pub returns-clause-refused : goal.returns-clause-refused
returns-clause-refused g c m told =
    let v = volume_at (geometry_of c.args.site.sup) m in
    let can = c.requires.readable m told in
    let f : c.deref-2.result.now ≡ contents m c.args.inode = c.deref-2.ensures.value ∙ c.in-Ok.ensures.read m told can.inode in
    let o = directory_in c.args.site.sup c.deref-2.result.now in
    read_refused v c.args.inode c.rows_behind.result (λ rows. rows ≡ c.in-Ok-area_rows.small.items ++ rows_of_attributes (attributes_of v o)) (g.B.Blocks.counts c.read_block.new.under) (g.B.Blocks.counts c.rows_behind.new.under)
    (subst (λ (d : Option ℕ). IfErr c.rows_behind.result (IsDirectoryFault v c.args.inode d)) (directory_is c.args.site.sup m c.args.inode c.deref-2.result.now f) (c.rows_behind.ensures.refused m (c.in-Ok.ensures.told ∙ told)))
    c.rows_behind.ensures.cause
    (λ has. c.rows_behind.ensures.found m (c.in-Ok.ensures.told ∙ told) f has)
