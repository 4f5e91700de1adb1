use Rattle.std.proofs.Common.{ℕ, pos}
use Rattle.bfs_pages.specs.Maps.{put}
use Rattle.bfs_stream.specs.Sizes.{Origin}
use Rattle.bfs_maps.specs.Mapped.{origin_of, rows_of}
use Rattle.bfs_maps.proofs.Numbered.{map_tree, numbered}
use Rattle.bfs_maps.proofs.Over.{on_ok}
use Rattle.bfs_maps.proofs.Plain.{numbers_put}
use Rattle.bfs_maps.proofs.putting.put_number.Goals as goal

pub returns-clause-put : goal.returns-clause-put
returns-clause-put g c m told d =
    let o : Origin = origin_of c.args.tree in
    let kind = c.args.tree.kind in
    let n : ℕ = c.args.number in
    on_ok _ _ c.put_row.result (c.put_row.ensures.put m told (map_tree kind o c.args.bitmap.now m d))
    (numbered kind o c.args.bitmap.now c.put_row.new.bitmap m (put kind (rows_of kind o m) c.args.key.now (pos n)) (g.E.Blocks.told c.put_row.new.edits) (g.E.Blocks.changed c.args.edits.now) (g.E.Blocks.changed c.put_row.new.edits)
    (numbers_put kind (rows_of kind o m) c.args.key.now n c.requires.number d.tree.numbers))

pub returns-clause-absent : goal.returns-clause-absent
returns-clause-absent g c m told d = c.put_row.ensures.absent m told (map_tree c.args.tree.kind (origin_of c.args.tree) c.args.bitmap.now m d)

pub returns-clause-refused : goal.returns-clause-refused
returns-clause-refused g c m told d = c.put_row.ensures.refused m told (map_tree c.args.tree.kind (origin_of c.args.tree) c.args.bitmap.now m d)
