use Rattle.std.proofs.Common.{ℕ, List, Option, [], ap, subst}
use Rattle.bfs_super.specs.Geometry.{geometry_of}
use Rattle.bfs_shift.specs.Work.{HasDirectoryAt}
use Rattle.bfs_calls.proofs.Faulting.{undone_unanswered}
use Rattle.bfs_make.proofs.Telling.{told_back, one_map}
use Rattle.bfs_moves.proofs.Stepping.{stepped_twice}
use Rattle.bfs_rename.specs.Rows.{row_taken, rows_moved}
use Rattle.bfs_rename.proofs.Placed.{numbers_left}
use Rattle.bfs_rename.proofs.rows.move_row.Goals as goal

pub take_row-requires-clause-directory : goal.take_row-requires-clause-directory
take_row-requires-clause-directory g c m told =
    let h = c.requires.places m told in
    record { tree = h.tree; lists = h.lists; loose = []; node = h.d; work = h.work; there = h.there; kind = h.dir_kind }

pub returns-in-Err-clause-unanswered : goal.returns-in-Err-clause-unanswered
returns-in-Err-clause-unanswered g c m tree lists told work moving =
    undone_unanswered c.in-Err.fault (c.in-Err.ensures.undone m tree lists moving.d moving.value told work moving.there moving.dir_kind moving.numbers moving.row)

pub put_row-requires-clause-directory : goal.put_row-requires-clause-directory
put_row-requires-clause-directory g c n now =
    let before =
    told_back (g.E.Blocks.told c.args.edits.now) (g.E.Blocks.told c.take_row.new.edits) (g.E.Blocks.frame c.args.edits.now).below (g.E.Blocks.frame c.take_row.new.edits).below
    (g.met.E.Edits.tells c.args.edits.now) (g.met.E.Edits.tells c.take_row.new.edits) (ap (λ f. f.below) c.in-Ok.ensures.frame) n now in
    let m = before.0 in
    let h = c.requires.places m before.1 in
    let one = c.in-Ok.ensures.taken m h.tree h.lists h.d before.1 h.work h.there h.dir_kind h.numbers in
    let at : HasDirectoryAt (geometry_of c.args.sup.now) c.take_row.new.bitmap one.map c.args.to_dir = record { tree = h.tree; lists = row_taken h.lists c.args.dir c.args.name.now; loose = []; node = h.t; work = one.work; there = h.to_there; kind = h.to_kind } in
    subst (λ (k : ℕ → Option (List ℕ)). HasDirectoryAt (geometry_of c.args.sup.now) c.take_row.new.bitmap k c.args.to_dir) (one_map (g.E.Blocks.told c.take_row.new.edits) one.map n one.is now) at

pub returns-in-Ok-put_row-clause-moved : goal.returns-in-Ok-put_row-clause-moved
returns-in-Ok-put_row-clause-moved g c m tree lists told work moving =
    let s = geometry_of c.args.sup.now in
    let left = row_taken lists c.args.dir c.args.name.now in
    let one = c.in-Ok.ensures.taken m tree lists moving.d told work moving.there moving.dir_kind moving.numbers in
    let two = c.in-Ok-put_row.ensures.put one.map tree left moving.t one.is one.work moving.to_there moving.to_kind (numbers_left lists c.args.dir c.args.name.now c.args.to_dir moving.numbers moving.to_numbers) in
    stepped_twice s c.args.bitmap.now c.take_row.new.bitmap c.put_row.new.bitmap m tree tree tree left (rows_moved lists c.args.dir c.args.name.now c.args.to_dir c.args.to_name.now c.args.id) [] []
    (g.E.Blocks.told c.take_row.new.edits) (g.E.Blocks.told c.put_row.new.edits) (g.E.Blocks.changed c.args.edits.now) (g.E.Blocks.changed c.take_row.new.edits) (g.E.Blocks.changed c.put_row.new.edits) one two

pub returns-in-Err-put_row-clause-unanswered : goal.returns-in-Err-put_row-clause-unanswered
returns-in-Err-put_row-clause-unanswered g c m tree lists told work moving =
    let one = c.in-Ok.ensures.taken m tree lists moving.d told work moving.there moving.dir_kind moving.numbers in
    c.in-Err-put_row.ensures.unanswered one.map tree (row_taken lists c.args.dir c.args.name.now) moving.t one.is one.work moving.to_there moving.to_kind
    (numbers_left lists c.args.dir c.args.name.now c.args.to_dir moving.numbers moving.to_numbers) moving.free
