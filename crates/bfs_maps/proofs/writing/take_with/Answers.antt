use Rattle.std.proofs.Common.{rules, ◌≡◌, ◌∙◌, pos, Some, ap, subst}
use Rattle.std.specs.Prelude.{IfOk, IfErr}
use Rattle.bfs_pages.specs.Maps.{assoc, without}
use Rattle.bfs_stream.specs.Sizes.{Origin}
use Rattle.bfs_maps.specs.Mapped.{origin_of, rows_of}
use Rattle.bfs_maps.specs.RowTrees.{IsRowTree}
use Rattle.bfs_maps.specs.Refused.{IsTakeFault}
use Rattle.bfs_maps.proofs.Over.{held_named, with_named, now_named, on_ok, taking_named, changed_named}
use Rattle.bfs_maps.specs.Refused.{IsNumberPage}
use Rattle.bfs_stream_pages.proofs.Keeping.{given}
use Rattle.bfs_maps.proofs.writing.take_with.Goals as goal

pub returns-clause-taken : goal.returns-clause-taken
returns-clause-taken g c m told held tree =
    let p = c.over-pages.result in
    let o : Origin = origin_of c.args.tree in
    let v = c.args.bitmap.now in
    let here = ap g.E.Blocks.told c.over-pages.ensures.edits_now ∙ told in
    let held_p = held_named o p.backing v p.bitmap.now c.args.length p.length m c.over-pages.ensures.backing c.over-pages.ensures.bitmap_now c.over-pages.ensures.length held in
    let tree_p = with_named c.args.tree.kind c.args.key.now o p.backing m c.over-pages.ensures.backing tree in
    on_ok _ _ c.take_over.result (c.take_over.ensures.taken m here held_p tree_p)
    (now_named (λ (x : Origin). IsRowTree c.args.tree.kind (without c.args.tree.kind (rows_of c.args.tree.kind x m) c.args.key.now)) m o p.backing v p.bitmap.now _ c.take_over.new.pages.bitmap.now _ (g.E.Blocks.told c.take_over.new.pages.edits.now) (g.E.Blocks.changed c.args.edits.now) (g.E.Blocks.changed p.edits.now) _ (g.E.Blocks.changed c.take_over.new.pages.edits.now)
    c.over-pages.ensures.backing c.over-pages.ensures.bitmap_now (search rules) (search rules) (ap g.E.Blocks.changed c.over-pages.ensures.edits_now) (search rules))

pub returns-clause-number : goal.returns-clause-number
returns-clause-number g c m told held tree =
    let p = c.over-pages.result in
    let o : Origin = origin_of c.args.tree in
    let v = c.args.bitmap.now in
    let here = ap g.E.Blocks.told c.over-pages.ensures.edits_now ∙ told in
    let held_p = held_named o p.backing v p.bitmap.now c.args.length p.length m c.over-pages.ensures.backing c.over-pages.ensures.bitmap_now c.over-pages.ensures.length held in
    let tree_p = with_named c.args.tree.kind c.args.key.now o p.backing m c.over-pages.ensures.backing tree in
    subst (λ (x : Origin). IfOk c.take_over.result (λ number. assoc c.args.tree.kind (rows_of c.args.tree.kind x m) c.args.key.now ≡ Some (pos number))) c.over-pages.ensures.backing (c.take_over.ensures.number m here held_p tree_p)

pub returns-clause-refused : goal.returns-clause-refused
returns-clause-refused g c m told held tree =
    let p = c.over-pages.result in
    let o : Origin = origin_of c.args.tree in
    let v = c.args.bitmap.now in
    let here = ap g.E.Blocks.told c.over-pages.ensures.edits_now ∙ told in
    let held_p = held_named o p.backing v p.bitmap.now c.args.length p.length m c.over-pages.ensures.backing c.over-pages.ensures.bitmap_now c.over-pages.ensures.length held in
    let tree_p = with_named c.args.tree.kind c.args.key.now o p.backing m c.over-pages.ensures.backing tree in
    subst (λ (x : Origin). IfErr c.take_over.result (IsTakeFault c.args.tree.kind (rows_of c.args.tree.kind x m) c.args.key.now)) c.over-pages.ensures.backing (c.take_over.ensures.refused m here held_p tree_p)

pub returns-clause-blamed : goal.returns-clause-blamed
returns-clause-blamed g c m told held =
    let p = c.over-pages.result in
    let o : Origin = origin_of c.args.tree in
    let v = c.args.bitmap.now in
    let here = ap g.E.Blocks.told c.over-pages.ensures.edits_now ∙ told in
    let held_p = held_named o p.backing v p.bitmap.now c.args.length p.length m c.over-pages.ensures.backing c.over-pages.ensures.bitmap_now c.over-pages.ensures.length held in
    taking_named (IsNumberPage c.args.tree.kind) m o p.backing _ (g.E.Blocks.told c.take_over.new.pages.edits.now) c.take_over.result c.over-pages.ensures.backing (search rules) (c.take_over.ensures.blamed m here held_p)

pub over-pages-requires-clause-bytes : goal.over-pages-requires-clause-bytes
over-pages-requires-clause-bytes g c b is = given (origin_of c.args.tree) (g.E.Blocks.told c.args.edits.now) c.args.bytes b c.requires.bytes is

pub returns-clause-changed : goal.returns-clause-changed
returns-clause-changed g c =
    let p = c.over-pages.result in
    changed_named (origin_of c.args.tree) p.backing c.args.bitmap.now p.bitmap.now (g.E.Blocks.changed c.args.edits.now) (g.E.Blocks.changed p.edits.now) (g.E.Blocks.changed c.take_over.new.pages.edits.now) _ c.over-pages.ensures.backing c.over-pages.ensures.bitmap_now (ap g.E.Blocks.changed c.over-pages.ensures.edits_now) (search rules) c.take_over.ensures.changed
