use Rattle.bfs_pages.specs.Maps.{without}
use Rattle.bfs_stream.specs.Sizes.{Origin}
use Rattle.bfs_maps.specs.Mapped.{origin_of, rows_of}
use Rattle.bfs_maps.proofs.Numbered.{map_tree_with, numbered}
use Rattle.bfs_maps.proofs.Over.{on_ok}
use Rattle.bfs_maps.proofs.Plain.{numbers_without}
use Rattle.bfs_maps.proofs.putting.take_number.Goals as goal

pub returns-clause-taken : goal.returns-clause-taken
returns-clause-taken g c m told d =
    let o : Origin = origin_of c.args.tree in
    let kind = c.args.tree.kind in
    on_ok _ _ c.take_row.result (c.take_row.ensures.taken m told (map_tree_with kind c.args.key.now o c.args.bitmap.now m d))
    (numbered kind o c.args.bitmap.now c.take_row.new.bitmap m (without kind (rows_of kind o m) c.args.key.now) (g.E.Blocks.told c.take_row.new.edits) (g.E.Blocks.changed c.args.edits.now) (g.E.Blocks.changed c.take_row.new.edits)
    (numbers_without kind (rows_of kind o m) c.args.key.now d.tree.numbers))

pub returns-clause-number : goal.returns-clause-number
returns-clause-number g c m told d = c.take_row.ensures.number m told (map_tree_with c.args.tree.kind c.args.key.now (origin_of c.args.tree) c.args.bitmap.now m d)

pub returns-clause-refused : goal.returns-clause-refused
returns-clause-refused g c m told d = c.take_row.ensures.refused m told (map_tree_with c.args.tree.kind c.args.key.now (origin_of c.args.tree) c.args.bitmap.now m d)
