use Rattle.std.proofs.Common.{rules, ◌≡◌, ◌∙◌, ℤ, [], sym, ap, subst}
use mir.Syntax.{w64}
use mir.Val.{to_z, of_z}
use Rattle.bfs_super.specs.Geometry.{geometry_of}
use Rattle.bfs_tree.specs.Trees.{Tree}
use Rattle.bfs_shift.specs.Work.{IsStepped}
use Rattle.bfs_make.proofs.Telling.{told_back}
use Rattle.bfs_moves.proofs.Stepping.{stepped_twice}
use Rattle.bfs_rename.specs.Moved.{with_seat}
use Rattle.bfs_rename.specs.Stamped.{both_touched}
use Rattle.bfs_rename.proofs.Arrived.{holds_proper, has, tree_is, agrees_now}
use Rattle.bfs_rename.proofs.moving.move_node.Goals as goal

pub move_lists-requires-clause-moving : goal.move_lists-requires-clause-moving
move_lists-requires-clause-moving g c m told = c.requires.moving m told

pub returns-in-Err-clause-unanswered : goal.returns-in-Err-clause-unanswered
returns-in-Err-clause-unanswered g c m tree lists n told ready move kind number = c.in-Err.ensures.unanswered m tree lists n told ready move kind number

pub take_seat-requires-clause-node : goal.take_seat-requires-clause-node
take_seat-requires-clause-node g c k now =
    let before =
    told_back (g.E.Blocks.told c.args.edits.now) (g.E.Blocks.told c.stamp_both.new.edits) (g.E.Blocks.frame c.args.edits.now).below (g.E.Blocks.frame c.stamp_both.new.edits).below
    (g.met.E.Edits.tells c.args.edits.now) (g.met.E.Edits.tells c.stamp_both.new.edits) (ap (λ f. f.below) (c.in-Ok-stamp_both.ensures.frame ∙ c.in-Ok.ensures.frame)) k now in
    let m = before.0 in
    let l = c.requires.moving m before.1 in
    let h = l.has in
    let s = geometry_of c.args.sup.now in
    let id = c.args.child.id in
    let v1 = c.move_lists.new.bitmap in
    let e : to_z w64 (of_z w64 c.args.stamp) ≡ c.args.stamp = search rules in
    let one = c.in-Ok.ensures.moved m h.tree h.lists h.n before.1 h.ready h.move h.kind_is l.listed in
    let two : IsStepped s v1 v1 one.step.map h.tree (both_touched h.tree c.args.dir c.args.to_dir c.args.stamp) one.last [] (g.E.Blocks.told c.stamp_both.new.edits) (g.E.Blocks.changed c.move_lists.new.edits) (g.E.Blocks.changed c.stamp_both.new.edits) =
    subst (λ (z : ℤ). IsStepped s v1 v1 one.step.map h.tree (both_touched h.tree c.args.dir c.args.to_dir z) one.last [] (g.E.Blocks.told c.stamp_both.new.edits) (g.E.Blocks.changed c.move_lists.new.edits) (g.E.Blocks.changed c.stamp_both.new.edits)) e
    (c.in-Ok-stamp_both.ensures.stamped v1 one.step.map h.tree one.last [] h.move.d h.move.t one.step.is one.step.work h.move.there h.move.dir_kind h.move.to_there h.move.to_kind) in
    holds_proper s v1 two.map (g.E.Blocks.told c.stamp_both.new.edits) (both_touched h.tree c.args.dir c.args.to_dir c.args.stamp) one.last id h.n two.is two.work
    (has c.args.sup.now c.args.bitmap.now m h.tree h.lists h.ready c.args.dir c.args.name.now c.args.to_dir c.args.to_name.now id h.n h.move c.args.stamp) (λ root. h.move.apart (root ∙ sym h.ready.root)) k now

pub returns-in-Ok-take_seat-clause-moved : goal.returns-in-Ok-take_seat-clause-moved
returns-in-Ok-take_seat-clause-moved g c m tree lists n told ready move kind number =
    let s = geometry_of c.args.sup.now in
    let v = c.args.bitmap.now in
    let id = c.args.child.id in
    let v1 = c.move_lists.new.bitmap in
    let v3 = c.take_seat.new.bitmap in
    let t1 = g.E.Blocks.told c.move_lists.new.edits in
    let t2 = g.E.Blocks.told c.stamp_both.new.edits in
    let t3 = g.E.Blocks.told c.take_seat.new.edits in
    let c0 = g.E.Blocks.changed c.args.edits.now in
    let c1 = g.E.Blocks.changed c.move_lists.new.edits in
    let c2 = g.E.Blocks.changed c.stamp_both.new.edits in
    let c3 = g.E.Blocks.changed c.take_seat.new.edits in
    let e : to_z w64 (of_z w64 c.args.stamp) ≡ c.args.stamp = search rules in
    let touched = both_touched tree c.args.dir c.args.to_dir c.args.stamp in
    let seated = with_seat touched id n c.args.to_dir c.args.to_name.now c.args.stamp in
    let one = c.in-Ok.ensures.moved m tree lists n told ready move kind number in
    let two : IsStepped s v1 v1 one.step.map tree touched one.last [] t2 c1 c2 =
    subst (λ (z : ℤ). IsStepped s v1 v1 one.step.map tree (both_touched tree c.args.dir c.args.to_dir z) one.last [] t2 c1 c2) e
    (c.in-Ok-stamp_both.ensures.stamped v1 one.step.map tree one.last [] move.d move.t one.step.is one.step.work move.there move.dir_kind move.to_there move.to_kind) in
    let there = has c.args.sup.now v m tree lists ready c.args.dir c.args.name.now c.args.to_dir c.args.to_name.now id n move c.args.stamp in
    let three : IsStepped s v1 v3 two.map touched seated one.last [] t3 c2 c3 =
    subst (λ (z : ℤ). IsStepped s v1 v3 two.map touched (with_seat touched id n c.args.to_dir c.args.to_name.now z) one.last [] t3 c2 c3) e
    (c.in-Ok-take_seat.ensures.seated two.map touched one.last n two.is two.work there (λ root. move.apart (root ∙ sym ready.root))) in
    let all : IsStepped s v v3 m tree seated one.last [] t3 c0 c3 =
    stepped_twice s v v1 v3 m tree tree seated one.last one.last [] [] t1 t3 c0 c1 c3 one.step
    (stepped_twice s v1 v1 v3 one.step.map tree touched seated one.last one.last [] [] t2 t3 c1 c2 c3 two three) in
    record {
      last = one.last;
      step = subst (λ (t : Tree). IsStepped s v v3 m tree t one.last [] t3 c0 c3) (tree_is c.args.sup.now v m tree lists ready c.args.dir c.args.name.now c.args.to_dir c.args.to_name.now id n move c.args.stamp) all;
      agrees = agrees_now c.args.sup.now v m tree lists ready c.args.dir c.args.name.now c.args.to_dir c.args.to_name.now id n move c.args.stamp one.last (one.moves c.args.stamp);
    }

pub returns-in-Err-take_seat-clause-unanswered : goal.returns-in-Err-take_seat-clause-unanswered
returns-in-Err-take_seat-clause-unanswered g c m tree lists n told ready move kind number =
    let s = geometry_of c.args.sup.now in
    let v = c.args.bitmap.now in
    let id = c.args.child.id in
    let v1 = c.move_lists.new.bitmap in
    let t2 = g.E.Blocks.told c.stamp_both.new.edits in
    let c1 = g.E.Blocks.changed c.move_lists.new.edits in
    let c2 = g.E.Blocks.changed c.stamp_both.new.edits in
    let e : to_z w64 (of_z w64 c.args.stamp) ≡ c.args.stamp = search rules in
    let touched = both_touched tree c.args.dir c.args.to_dir c.args.stamp in
    let one = c.in-Ok.ensures.moved m tree lists n told ready move kind number in
    let two : IsStepped s v1 v1 one.step.map tree touched one.last [] t2 c1 c2 =
    subst (λ (z : ℤ). IsStepped s v1 v1 one.step.map tree (both_touched tree c.args.dir c.args.to_dir z) one.last [] t2 c1 c2) e
    (c.in-Ok-stamp_both.ensures.stamped v1 one.step.map tree one.last [] move.d move.t one.step.is one.step.work move.there move.dir_kind move.to_there move.to_kind) in
    c.in-Err-take_seat.ensures.unanswered two.map touched one.last n two.is two.work
    (has c.args.sup.now v m tree lists ready c.args.dir c.args.name.now c.args.to_dir c.args.to_name.now id n move c.args.stamp) (λ root. move.apart (root ∙ sym ready.root))
