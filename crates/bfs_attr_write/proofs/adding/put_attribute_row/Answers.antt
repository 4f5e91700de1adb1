use Rattle.std.proofs.Common.{arith}
use Rattle.bfs_attr.proofs.Tops.{few_blocks}
use Rattle.bfs_base.specs.declared.kind.KeyKind.TheVariants.{Text}
use Rattle.bfs_attr.specs.Bearers.{bearer_of, origin}
use Rattle.bfs_super.specs.Geometry.{geometry_of}
use Rattle.bfs_maps.specs.Mapped.{rows_of}
use Rattle.bfs_maps.proofs.Over.{on_ok}
use Rattle.bfs_attr_write.proofs.Steps.{row_fault, directory_tree, row_joined, unnamed}
use Rattle.bfs_attr_write.proofs.adding.put_attribute_row.Goals as goal

pub returns-clause-added : goal.returns-clause-added
returns-clause-added g c inode v m map attribute old told can stored =
    on_ok _ _ c.put_row.result (c.put_row.ensures.put map told (directory_tree (bearer_of inode c.args.site.sup) v c.args.bitmap.now m map c.args.directory c.args.id c.args.name.now attribute old (g.E.Blocks.changed c.args.edits.now) can stored))
    (row_joined (bearer_of inode c.args.site.sup) v c.args.bitmap.now m map c.args.directory c.args.id c.args.name.now attribute old (g.E.Blocks.changed c.args.edits.now) can stored c.requires.number c.put_row.new.bitmap (g.E.Blocks.told c.put_row.new.edits) (g.E.Blocks.changed c.put_row.new.edits))

pub returns-clause-faults : goal.returns-clause-faults
returns-clause-faults g c inode v m map attribute old told can stored =
    row_fault (origin (geometry_of c.args.site.sup) c.args.directory) c.args.bitmap.now map (rows_of Text (origin (geometry_of c.args.site.sup) c.args.directory) map) c.args.name.now c.put_row.result
    (unnamed (bearer_of inode c.args.site.sup) v c.args.bitmap.now m map c.args.directory c.args.id c.args.name.now attribute old (g.E.Blocks.changed c.args.edits.now) can stored)
    (c.put_row.ensures.refused map told (directory_tree (bearer_of inode c.args.site.sup) v c.args.bitmap.now m map c.args.directory c.args.id c.args.name.now attribute old (g.E.Blocks.changed c.args.edits.now) can stored))

pub put_row-requires-clause-number : goal.put_row-requires-clause-number
put_row-requires-clause-number g c =
    let few = few_blocks c.args.site.sup c.requires.valid in
    let low = c.requires.number in
    omega (arith, few, low)
