use Rattle.std.proofs.Common.{rules, ◌≡◌, ◌≤◌, ◌∙◌, ℕ, ℤ, List, length, sym, ap, subst, arith}
use mir.Syntax.{w64}
use mir.Val.{to_z, of_z}
use Rattle.bfs_super.specs.Geometry.{geometry_of}
use Rattle.bfs_bitmap.specs.Runs.{Room}
use Rattle.bfs_calls.proofs.Faulting.{undone_unanswered}
use Rattle.bfs_calls.proofs.Refusing.{good_short}
use Rattle.bfs_look.specs.Ready.{IsReady}
use Rattle.bfs_rename.specs.Moved.{HasMoved}
use Rattle.bfs_rename.proofs.Arrived.{listed_move, moved_from}
use Rattle.bfs_rename.proofs.moving.arrive.Goals as goal

pub returns-then-name-gt255-clause-unanswered : goal.returns-then-name-gt255-clause-unanswered
returns-then-name-gt255-clause-unanswered g c m tree lists n told ready move kind =
    let short : length n.name ≤ 255 = good_short n.name (ready.plain.nodes.named c.args.child.id n move.node_there move.apart) in
    let same : length n.name ≡ length c.args.name.now = ap (λ (l : List ℕ). length l) move.named in
    let long = c.if-name-gt255.true in
    absurd (omega (arith, short, same, long))

pub built_in_indices-requires-clause-ready : goal.built_in_indices-requires-clause-ready
built_in_indices-requires-clause-ready g c m told = let h = c.requires.moving m told in record { tree = h.tree; lists = h.lists; ready = h.ready }

pub returns-in-Err-clause-unanswered : goal.returns-in-Err-clause-unanswered
returns-in-Err-clause-unanswered g c m tree lists n told ready move kind = undone_unanswered c.in-Err.fault (c.in-Err.ensures.found m tree lists told ready)

pub move_node-requires-clause-moving : goal.move_node-requires-clause-moving
move_node-requires-clause-moving g c m now =
    let told = sym c.in-Ok.ensures.told ∙ now in
    let h = c.requires.moving m told in
    listed_move (geometry_of c.args.sup.now) c.args.bitmap.now c.built_in_indices.new.bitmap m c.args.dir c.args.name.now c.args.to_dir c.args.to_name.now c.args.child.id c.args.child.kind c.in-Ok.indices.name
    c.in-Ok.ensures.bitmap h (c.in-Ok.ensures.found m h.tree h.lists told h.ready).name

pub returns-in-Ok-move_node-clause-moved : goal.returns-in-Ok-move_node-clause-moved
returns-in-Ok-move_node-clause-moved g c m tree lists n told ready move kind =
    let s = geometry_of c.args.sup.now in
    let here = subst (λ (r : Room). IsReady s r m tree lists) (sym c.in-Ok.ensures.bitmap) ready in
    let built = c.in-Ok.ensures.found m tree lists told ready in
    moved_from s c.args.bitmap.now c.built_in_indices.new.bitmap c.move_node.new.bitmap m tree c.args.dir c.args.to_dir c.args.to_name.now c.args.stamp c.args.child.id (g.E.Blocks.told c.move_node.new.edits)
    (g.E.Blocks.changed c.args.edits.now) (g.E.Blocks.changed c.built_in_indices.new.edits) (g.E.Blocks.changed c.move_node.new.edits) c.in-Ok.ensures.bitmap c.in-Ok.ensures.changed
    (subst (λ (z : ℤ). HasMoved s c.built_in_indices.new.bitmap c.move_node.new.bitmap m tree c.args.dir c.args.to_dir c.args.to_name.now z c.args.child.id (g.E.Blocks.told c.move_node.new.edits) (g.E.Blocks.changed c.built_in_indices.new.edits) (g.E.Blocks.changed c.move_node.new.edits))
    (let e : to_z w64 (of_z w64 c.args.stamp) ≡ c.args.stamp = search rules in e)
    (c.in-Ok-move_node.ensures.moved m tree lists n (c.in-Ok.ensures.told ∙ told) here move kind built.name))

pub returns-in-Err-move_node-clause-unanswered : goal.returns-in-Err-move_node-clause-unanswered
returns-in-Err-move_node-clause-unanswered g c m tree lists n told ready move kind =
    let here = subst (λ (r : Room). IsReady (geometry_of c.args.sup.now) r m tree lists) (sym c.in-Ok.ensures.bitmap) ready in
    let built = c.in-Ok.ensures.found m tree lists told ready in
    c.in-Err-move_node.ensures.unanswered m tree lists n (c.in-Ok.ensures.told ∙ told) here move kind built.name
