use Rattle.std.proofs.Common.{rules, ◌∙◌, ap, subst}
use Rattle.std.specs.Prelude.{IfErr}
use Rattle.bfs_bitmap.specs.Runs.{Room}
use Rattle.bfs_stream.specs.Sizes.{Origin}
use Rattle.bfs_stream_pages.specs.Held.{stream_of}
use Rattle.bfs_maps.specs.Mapped.{origin_of}
use Rattle.bfs_maps.proofs.Over.{held_named, now_named, on_ok, change_named, changed_named}
use Rattle.bfs_index.specs.Indices.{HasWith}
use Rattle.bfs_index.specs.Refused.{IsPairPage, IsPairFault}
use Rattle.bfs_index.proofs.Over.{whole_named}
use Rattle.bfs_stream_pages.proofs.Keeping.{given}
use Rattle.bfs_index.proofs.changing.add_with.Goals as goal

pub returns-clause-added : goal.returns-clause-added
returns-clause-added g c m told held tree =
    let p = c.over-pages.result in
    let o : Origin = origin_of c.args.tree in
    let v = c.args.bitmap.now in
    let here = ap g.E.Blocks.told c.over-pages.ensures.edits_now ∙ told in
    let held_p = held_named o p.backing v p.bitmap.now c.args.length p.length m c.over-pages.ensures.backing c.over-pages.ensures.bitmap_now c.over-pages.ensures.length held in
    let tree_p = whole_named c.args.tree.kind o p.backing m c.over-pages.ensures.backing tree in
    on_ok _ _ c.add_over.result (c.add_over.ensures.added m here held_p tree_p)
    (now_named (λ (x : Origin). HasWith c.args.tree.kind (stream_of x m) c.args.key.now c.args.id) m o p.backing v p.bitmap.now _ c.add_over.new.pages.bitmap.now _ (g.E.Blocks.told c.add_over.new.pages.edits.now) (g.E.Blocks.changed c.args.edits.now) (g.E.Blocks.changed p.edits.now) _ (g.E.Blocks.changed c.add_over.new.pages.edits.now)
    c.over-pages.ensures.backing c.over-pages.ensures.bitmap_now (search rules) (search rules) (ap g.E.Blocks.changed c.over-pages.ensures.edits_now) (search rules))

pub returns-clause-refused : goal.returns-clause-refused
returns-clause-refused g c m told held tree =
    let p = c.over-pages.result in
    let o : Origin = origin_of c.args.tree in
    let v = c.args.bitmap.now in
    let here = ap g.E.Blocks.told c.over-pages.ensures.edits_now ∙ told in
    let held_p = held_named o p.backing v p.bitmap.now c.args.length p.length m c.over-pages.ensures.backing c.over-pages.ensures.bitmap_now c.over-pages.ensures.length held in
    let tree_p = whole_named c.args.tree.kind o p.backing m c.over-pages.ensures.backing tree in
    subst (λ (x : Origin × Room). IfErr c.add_over.result (IsPairFault x.0 x.1 m)) (λ i. (c.over-pages.ensures.backing i, c.over-pages.ensures.bitmap_now i)) (c.add_over.ensures.refused m here held_p tree_p)

pub returns-clause-blamed : goal.returns-clause-blamed
returns-clause-blamed g c m told held =
    let p = c.over-pages.result in
    let o : Origin = origin_of c.args.tree in
    let v = c.args.bitmap.now in
    let here = ap g.E.Blocks.told c.over-pages.ensures.edits_now ∙ told in
    let held_p = held_named o p.backing v p.bitmap.now c.args.length p.length m c.over-pages.ensures.backing c.over-pages.ensures.bitmap_now c.over-pages.ensures.length held in
    change_named (IsPairPage c.args.tree.kind c.args.key.now) m o p.backing v p.bitmap.now _ (g.E.Blocks.told c.add_over.new.pages.edits.now) c.add_over.result c.over-pages.ensures.backing c.over-pages.ensures.bitmap_now (search rules) (c.add_over.ensures.blamed m here held_p)

pub over-pages-requires-clause-bytes : goal.over-pages-requires-clause-bytes
over-pages-requires-clause-bytes g c b is = given (origin_of c.args.tree) (g.E.Blocks.told c.args.edits.now) c.args.bytes b c.requires.bytes is

pub returns-clause-changed : goal.returns-clause-changed
returns-clause-changed g c =
    let p = c.over-pages.result in
    changed_named (origin_of c.args.tree) p.backing c.args.bitmap.now p.bitmap.now (g.E.Blocks.changed c.args.edits.now) (g.E.Blocks.changed p.edits.now) (g.E.Blocks.changed c.add_over.new.pages.edits.now) _ c.over-pages.ensures.backing c.over-pages.ensures.bitmap_now (ap g.E.Blocks.changed c.over-pages.ensures.edits_now) (search rules) c.add_over.ensures.changed
