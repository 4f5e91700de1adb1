use Rattle.std.proofs.Common.{◌≡◌, ◌∙◌, ℕ, List, [], Option, Bool, cond, codes, true, sym, ap, subst}
use Rattle.bfs_super.specs.Geometry.{geometry_of}
use Rattle.bfs_shift.specs.Work.{IsStepped}
use Rattle.bfs_tree.specs.Trees.{is_dir}
use Rattle.bfs_look.proofs.Known.{dir_is}
use Rattle.bfs_calls.proofs.Faulting.{cause_earlier}
use Rattle.bfs_make.proofs.Telling.{told_back, one_map}
use Rattle.bfs_moves.proofs.Stepping.{stepped_twice}
use Rattle.bfs_rename.specs.Rows.{HasPlaces, rows_moved}
use Rattle.bfs_rename.proofs.Seats.{small_id, row_moving, dots_moving}
use Rattle.bfs_rename.proofs.seating.move_rows.Goals as goal

pub move_row-requires-clause-id : goal.move_row-requires-clause-id
move_row-requires-clause-id g c = small_id c.args.sup.now c.args.child.id c.requires.valid c.requires.child_inside

pub move_row-requires-clause-places : goal.move_row-requires-clause-places
move_row-requires-clause-places g c m told =
    let h = c.requires.moving m told in
    let r = row_moving c.args.sup.now c.args.bitmap.now m h.tree h.lists h.ready c.requires.valid c.args.dir c.args.name.now c.args.to_dir c.args.to_name.now c.args.child.id h.n h.move in
    record { tree = h.tree; lists = h.lists; work = h.ready.work; d = r.d; there = r.there; dir_kind = r.dir_kind; t = r.t; to_there = r.to_there; to_kind = r.to_kind; numbers = r.numbers }

pub returns-in-Err-clause-unanswered : goal.returns-in-Err-clause-unanswered
returns-in-Err-clause-unanswered g c m tree lists n told ready move kind =
    c.in-Err.ensures.unanswered m tree lists told ready.work (row_moving c.args.sup.now c.args.bitmap.now m tree lists ready c.requires.valid c.args.dir c.args.name.now c.args.to_dir c.args.to_name.now c.args.child.id n move)

pub returns-then-not-is_dir-clause-moved : goal.returns-then-not-is_dir-clause-moved
returns-then-not-is_dir-clause-moved g c m tree lists n told ready move kind =
    let s = geometry_of c.args.sup.now in
    let one = c.in-Ok.ensures.moved m tree lists told ready.work (row_moving c.args.sup.now c.args.bitmap.now m tree lists ready c.requires.valid c.args.dir c.args.name.now c.args.to_dir c.args.to_name.now c.args.child.id n move) in
    let leaf = sym c.is_dir.ensures ∙ c.if-not-is_dir.true in
    let mid = rows_moved lists c.args.dir c.args.name.now c.args.to_dir c.args.to_name.now c.args.child.id in
    subst (λ (b : Bool). IsStepped s c.args.bitmap.now c.move_row.new.bitmap m tree tree (cond b (rows_moved mid c.args.child.id (codes "..") c.args.child.id (codes "..") c.args.to_dir) mid) [] (g.E.Blocks.told c.move_row.new.edits) (g.E.Blocks.changed c.args.edits.now) (g.E.Blocks.changed c.move_row.new.edits)) (sym leaf) one

pub move_row-requires-2-clause-id : goal.move_row-requires-2-clause-id
move_row-requires-2-clause-id g c = small_id c.args.sup.now c.args.to_dir c.requires.valid c.requires.place.inside

pub move_row-requires-2-clause-places : goal.move_row-requires-2-clause-places
move_row-requires-2-clause-places g c n now =
    let before =
    told_back (g.E.Blocks.told c.args.edits.now) (g.E.Blocks.told c.move_row.new.edits) (g.E.Blocks.frame c.args.edits.now).below (g.E.Blocks.frame c.move_row.new.edits).below
    (g.met.E.Edits.tells c.args.edits.now) (g.met.E.Edits.tells c.move_row.new.edits) (ap (λ f. f.below) c.in-Ok.ensures.frame) n now in
    let m = before.0 in
    let h = c.requires.moving m before.1 in
    let id = c.args.child.id in
    let one = c.in-Ok.ensures.moved m h.tree h.lists before.1 h.ready.work (row_moving c.args.sup.now c.args.bitmap.now m h.tree h.lists h.ready c.requires.valid c.args.dir c.args.name.now c.args.to_dir c.args.to_name.now id h.n h.move) in
    let isdir = dir_is h.n.kind (ap is_dir (sym h.kind_is) ∙ sym c.is_dir.ensures ∙ c.if-not-is_dir.false) in
    let r = dots_moving c.args.sup.now c.args.bitmap.now m h.tree h.lists h.ready c.requires.valid c.args.dir c.args.name.now c.args.to_dir c.args.to_name.now id h.n h.move isdir in
    let at : HasPlaces (geometry_of c.args.sup.now) c.move_row.new.bitmap one.map id id = record { tree = h.tree; lists = rows_moved h.lists c.args.dir c.args.name.now c.args.to_dir c.args.to_name.now id; work = one.work; d = r.d; there = r.there; dir_kind = r.dir_kind; t = r.t; to_there = r.to_there; to_kind = r.to_kind; numbers = r.numbers } in
    subst (λ (k : ℕ → Option (List ℕ)). HasPlaces (geometry_of c.args.sup.now) c.move_row.new.bitmap k id id) (one_map (g.E.Blocks.told c.move_row.new.edits) one.map n one.is now) at

pub returns-in-Ok-move_row-clause-moved : goal.returns-in-Ok-move_row-clause-moved
returns-in-Ok-move_row-clause-moved g c m tree lists n told ready move kind =
    let s = geometry_of c.args.sup.now in
    let id = c.args.child.id in
    let one = c.in-Ok.ensures.moved m tree lists told ready.work (row_moving c.args.sup.now c.args.bitmap.now m tree lists ready c.requires.valid c.args.dir c.args.name.now c.args.to_dir c.args.to_name.now id n move) in
    let own : is_dir c.args.child.kind ≡ true = sym c.is_dir.ensures ∙ c.if-not-is_dir.false in
    let isdir = dir_is n.kind (ap is_dir (sym kind) ∙ own) in
    let mid = rows_moved lists c.args.dir c.args.name.now c.args.to_dir c.args.to_name.now id in
    let last = rows_moved mid id (codes "..") id (codes "..") c.args.to_dir in
    let two = c.in-Ok-move_row.ensures.moved one.map tree mid one.is one.work (dots_moving c.args.sup.now c.args.bitmap.now m tree lists ready c.requires.valid c.args.dir c.args.name.now c.args.to_dir c.args.to_name.now id n move isdir) in
    subst (λ (b : Bool). IsStepped s c.args.bitmap.now c.move_row-2.new.bitmap m tree tree (cond b last mid) [] (g.E.Blocks.told c.move_row-2.new.edits) (g.E.Blocks.changed c.args.edits.now) (g.E.Blocks.changed c.move_row-2.new.edits)) (sym own)
    (stepped_twice s c.args.bitmap.now c.move_row.new.bitmap c.move_row-2.new.bitmap m tree tree tree mid last [] []
    (g.E.Blocks.told c.move_row.new.edits) (g.E.Blocks.told c.move_row-2.new.edits) (g.E.Blocks.changed c.args.edits.now) (g.E.Blocks.changed c.move_row.new.edits) (g.E.Blocks.changed c.move_row-2.new.edits) one two)

pub returns-in-Err-move_row-clause-unanswered : goal.returns-in-Err-move_row-clause-unanswered
returns-in-Err-move_row-clause-unanswered g c m tree lists n told ready move kind =
    let id = c.args.child.id in
    let one = c.in-Ok.ensures.moved m tree lists told ready.work (row_moving c.args.sup.now c.args.bitmap.now m tree lists ready c.requires.valid c.args.dir c.args.name.now c.args.to_dir c.args.to_name.now id n move) in
    let isdir = dir_is n.kind (ap is_dir (sym kind) ∙ sym c.is_dir.ensures ∙ c.if-not-is_dir.false) in
    c.in-Err-move_row.ensures.unanswered one.map tree (rows_moved lists c.args.dir c.args.name.now c.args.to_dir c.args.to_name.now id) one.is one.work
    (dots_moving c.args.sup.now c.args.bitmap.now m tree lists ready c.requires.valid c.args.dir c.args.name.now c.args.to_dir c.args.to_name.now id n move isdir)

pub returns-in-Err-move_row-clause-cause : goal.returns-in-Err-move_row-clause-cause
returns-in-Err-move_row-clause-cause g c =
    cause_earlier (g.E.Blocks.counts c.args.edits.now) (g.E.Blocks.counts c.move_row.new.edits) (g.E.Blocks.counts c.move_row-2.new.edits) c.in-Err-move_row.fault c.in-Ok.ensures.later c.in-Err-move_row.ensures.cause
