use Rattle.std.proofs.Common.{rules, ◌≡◌, [], ◌∷◌, ℤ, length, subst}
use mir.Syntax.{w64}
use mir.Val.{to_z, of_z}
use Rattle.bfs_super.specs.Geometry.{geometry_of}
use Rattle.bfs_tree.specs.Changes.{kind_made}
use Rattle.bfs_tree.specs.Names.{target_of}
use Rattle.bfs_tree.specs.Trees.{new_node}
use Rattle.bfs_calls.specs.Made.{IsFilled, with_new}
use Rattle.bfs_calls.proofs.Newborn.{not_root}
use Rattle.bfs_moves.proofs.Stepping.{stepped_twice}
use Rattle.bfs_calls.proofs.creating.create.Goals as goal

pub returns-in-Ok-fill-clause-created : goal.returns-in-Ok-fill-clause-created
returns-in-Ok-fill-clause-created g c m tree lists told ready =
    let one = c.in-Ok.ensures.taken m tree lists [] told ready.work in
    let absent = c.in-Ok.ensures.no_node m tree lists [] told ready.work in
    let e : to_z w64 (of_z w64 c.args.stamp) ≡ c.args.stamp = search rules in
    let two : IsFilled (geometry_of c.args.sup.now) c.take_block.new.bitmap c.fill.new.bitmap one.map tree lists c.in-Ok.block c.args.dir (new_node (kind_made c.args.kind.now) c.args.name.now c.args.dir c.args.mode (length (target_of c.args.kind.now)) (target_of c.args.kind.now) c.args.stamp) (g.E.Blocks.told c.fill.new.edits) (g.E.Blocks.changed c.take_block.new.edits) (g.E.Blocks.changed c.fill.new.edits) =
    subst (λ (z : ℤ). IsFilled (geometry_of c.args.sup.now) c.take_block.new.bitmap c.fill.new.bitmap one.map tree lists c.in-Ok.block c.args.dir (new_node (kind_made c.args.kind.now) c.args.name.now c.args.dir c.args.mode (length (target_of c.args.kind.now)) (target_of c.args.kind.now) z) (g.E.Blocks.told c.fill.new.edits) (g.E.Blocks.changed c.take_block.new.edits) (g.E.Blocks.changed c.fill.new.edits)) e
    (c.in-Ok-fill.ensures.filled one.map tree lists one.is one.work absent (not_root c.args.sup.now c.args.bitmap.now m tree lists ready c.in-Ok.block absent)) in
    record {
      absent = absent;
      filled = record {
        begun = two.begun;
        step =
            stepped_twice (geometry_of c.args.sup.now) c.args.bitmap.now c.take_block.new.bitmap c.fill.new.bitmap m tree tree (with_new tree c.in-Ok.block (new_node (kind_made c.args.kind.now) c.args.name.now c.args.dir c.args.mode (length (target_of c.args.kind.now)) (target_of c.args.kind.now) c.args.stamp)) lists two.begun (c.in-Ok.block ∷ []) []
            (g.E.Blocks.told c.take_block.new.edits) (g.E.Blocks.told c.fill.new.edits) (g.E.Blocks.changed c.args.edits.now) (g.E.Blocks.changed c.take_block.new.edits) (g.E.Blocks.changed c.fill.new.edits) one two.step;
        rows = two.rows;
      };
    }

pub returns-in-Err-fill-clause-unanswered : goal.returns-in-Err-fill-clause-unanswered
returns-in-Err-fill-clause-unanswered g c m tree lists told ready =
    let one = c.in-Ok.ensures.taken m tree lists [] told ready.work in
    let absent = c.in-Ok.ensures.no_node m tree lists [] told ready.work in
    c.in-Err-fill.ensures.unanswered one.map tree lists one.is one.work absent (not_root c.args.sup.now c.args.bitmap.now m tree lists ready c.in-Ok.block absent)
