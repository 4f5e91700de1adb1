use Rattle.std.proofs.Common.{subst}
use Rattle.bfs_super.specs.Geometry.{geometry_of}
use Rattle.bfs_rename.specs.Counted.{AreOf}
use Rattle.bfs_rename.proofs.Childs.{is_there}
use Rattle.bfs_rename.proofs.Vacated.{vacated_none, vacated_some, stands}
use Rattle.bfs_rename.proofs.rename.vacate.Goals as goal

pub leave_tree-requires-clause-node : goal.leave_tree-requires-clause-node
leave_tree-requires-clause-node g c m told =
    let h = c.requires.vacating m told in
    let t = is_there h.o c.in-Some.other (subst (AreOf h.o) c.in-Some.is h.of) in
    record { tree = h.tree; lists = h.lists; ready = h.ready; node = t.0.1; stands = stands h.tree h.o t.0 c.in-Some.other c.args.dir c.args.name.now t.1 t.2 h.vacating }

pub returns-in-None-clause-left : goal.returns-in-None-clause-left
returns-in-None-clause-left g c m tree lists o told ready of vacating =
    vacated_none (geometry_of c.args.sup.now) c.args.bitmap.now m tree lists (g.E.Blocks.told c.args.edits.now) (g.E.Blocks.changed c.args.edits.now) ready told o (subst (AreOf o) c.in-None.is of)

pub returns-in-Ok-clause-left : goal.returns-in-Ok-clause-left
returns-in-Ok-clause-left g c m tree lists o told ready of vacating =
    let t = is_there o c.in-Some.other (subst (AreOf o) c.in-Some.is of) in
    vacated_some (geometry_of c.args.sup.now) c.args.bitmap.now c.leave_tree.new.bitmap m tree (g.E.Blocks.told c.leave_tree.new.edits) (g.E.Blocks.changed c.args.edits.now) (g.E.Blocks.changed c.leave_tree.new.edits) o t.0 c.in-Some.other t.1 t.2
    (c.in-Ok.ensures.left m tree lists t.0.1 told ready (stands tree o t.0 c.in-Some.other c.args.dir c.args.name.now t.1 t.2 vacating))

pub returns-in-Err-clause-undone : goal.returns-in-Err-clause-undone
returns-in-Err-clause-undone g c m tree lists o told ready of vacating =
    let t = is_there o c.in-Some.other (subst (AreOf o) c.in-Some.is of) in
    c.in-Err.ensures.undone m tree lists t.0.1 told ready (stands tree o t.0 c.in-Some.other c.args.dir c.args.name.now t.1 t.2 vacating)
