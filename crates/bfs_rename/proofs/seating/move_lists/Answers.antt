use Rattle.std.proofs.Common.{ℕ, List, [], Option, codes, ap, subst}
use Rattle.bfs_base.specs.declared.kind.KeyKind.TheVariants.{Text}
use Rattle.bfs_super.specs.Geometry.{geometry_of}
use Rattle.bfs_make.proofs.Telling.{told_back, one_map}
use Rattle.bfs_moves.proofs.Stepping.{stepped_twice}
use Rattle.bfs_set_size.specs.Relisted.{HasRelisting}
use Rattle.bfs_rename.proofs.Relists.{begun, left, pairs, last, relisting, moves}
use Rattle.bfs_rename.proofs.seating.move_lists.Goals as goal

pub move_rows-requires-clause-moving : goal.move_rows-requires-clause-moving
move_rows-requires-clause-moving g c m told = (c.requires.moving m told).has

pub returns-in-Err-clause-unanswered : goal.returns-in-Err-clause-unanswered
returns-in-Err-clause-unanswered g c m tree lists n told ready move kind number = c.in-Err.ensures.unanswered m tree lists n told ready move kind

pub relist-requires-clause-relists : goal.relist-requires-clause-relists
relist-requires-clause-relists g c k now =
    let before =
    told_back (g.E.Blocks.told c.args.edits.now) (g.E.Blocks.told c.move_rows.new.edits) (g.E.Blocks.frame c.args.edits.now).below (g.E.Blocks.frame c.move_rows.new.edits).below
    (g.met.E.Edits.tells c.args.edits.now) (g.met.E.Edits.tells c.move_rows.new.edits) (ap (λ f. f.below) c.in-Ok.ensures.frame) k now in
    let m = before.0 in
    let l = c.requires.moving m before.1 in
    let h = l.has in
    let s = c.args.sup.now in
    let v = c.args.bitmap.now in
    let id = c.args.child.id in
    let one = c.in-Ok.ensures.moved m h.tree h.lists h.n before.1 h.ready h.move h.kind_is in
    let at : HasRelisting (geometry_of s) c.move_rows.new.bitmap one.map c.args.names Text c.args.name.now c.args.to_name.now id = record {
      tree = h.tree;
      lists = begun s v m h.tree h.lists h.ready c.requires.valid c.args.dir c.args.name.now c.args.to_dir c.args.to_name.now id h.n h.move c.args.child.kind h.kind_is c.args.names l.listed;
      index = codes "name";
      left = left s v m h.tree h.lists h.ready c.requires.valid c.args.dir c.args.name.now c.args.to_dir c.args.to_name.now id h.n h.move c.args.child.kind h.kind_is c.args.names l.listed;
      pairs = pairs s v m h.tree h.lists h.ready c.requires.valid c.args.dir c.args.name.now c.args.to_dir c.args.to_name.now id h.n h.move c.args.child.kind h.kind_is c.args.names l.listed;
      work = one.work;
      relisting = relisting s v m h.tree h.lists h.ready c.requires.valid c.args.dir c.args.name.now c.args.to_dir c.args.to_name.now id h.n h.move c.args.child.kind h.kind_is c.args.names l.listed;
    } in
    subst (λ (x : ℕ → Option (List ℕ)). HasRelisting (geometry_of s) c.move_rows.new.bitmap x c.args.names Text c.args.name.now c.args.to_name.now id) (one_map (g.E.Blocks.told c.move_rows.new.edits) one.map k one.is now) at

pub returns-in-Ok-relist-clause-moved : goal.returns-in-Ok-relist-clause-moved
returns-in-Ok-relist-clause-moved g c m tree lists n told ready move kind number =
    let s = c.args.sup.now in
    let v = c.args.bitmap.now in
    let id = c.args.child.id in
    let b = begun s v m tree lists ready c.requires.valid c.args.dir c.args.name.now c.args.to_dir c.args.to_name.now id n move c.args.child.kind kind c.args.names number in
    let l = last s v m tree lists ready c.requires.valid c.args.dir c.args.name.now c.args.to_dir c.args.to_name.now id n move c.args.child.kind kind c.args.names number in
    let one = c.in-Ok.ensures.moved m tree lists n told ready move kind in
    let two = c.in-Ok-relist.ensures.relisted one.map tree b (codes "name") (left s v m tree lists ready c.requires.valid c.args.dir c.args.name.now c.args.to_dir c.args.to_name.now id n move c.args.child.kind kind c.args.names number)
    (pairs s v m tree lists ready c.requires.valid c.args.dir c.args.name.now c.args.to_dir c.args.to_name.now id n move c.args.child.kind kind c.args.names number) one.is one.work
    (relisting s v m tree lists ready c.requires.valid c.args.dir c.args.name.now c.args.to_dir c.args.to_name.now id n move c.args.child.kind kind c.args.names number) in
    record {
      last = l;
      step = stepped_twice (geometry_of s) v c.move_rows.new.bitmap c.relist.new.bitmap m tree tree tree b l [] []
          (g.E.Blocks.told c.move_rows.new.edits) (g.E.Blocks.told c.relist.new.edits) (g.E.Blocks.changed c.args.edits.now) (g.E.Blocks.changed c.move_rows.new.edits) (g.E.Blocks.changed c.relist.new.edits) one two;
      moves = λ stamp. moves s v m tree lists ready c.requires.valid c.args.dir c.args.name.now c.args.to_dir c.args.to_name.now id n move c.args.child.kind kind c.args.names number stamp;
    }

pub returns-in-Err-relist-clause-unanswered : goal.returns-in-Err-relist-clause-unanswered
returns-in-Err-relist-clause-unanswered g c m tree lists n told ready move kind number =
    let s = c.args.sup.now in
    let v = c.args.bitmap.now in
    let id = c.args.child.id in
    let one = c.in-Ok.ensures.moved m tree lists n told ready move kind in
    c.in-Err-relist.ensures.unanswered one.map tree (begun s v m tree lists ready c.requires.valid c.args.dir c.args.name.now c.args.to_dir c.args.to_name.now id n move c.args.child.kind kind c.args.names number) (codes "name")
    (left s v m tree lists ready c.requires.valid c.args.dir c.args.name.now c.args.to_dir c.args.to_name.now id n move c.args.child.kind kind c.args.names number)
    (pairs s v m tree lists ready c.requires.valid c.args.dir c.args.name.now c.args.to_dir c.args.to_name.now id n move c.args.child.kind kind c.args.names number) one.is one.work
    (relisting s v m tree lists ready c.requires.valid c.args.dir c.args.name.now c.args.to_dir c.args.to_name.now id n move c.args.child.kind kind c.args.names number)
