use Rattle.std.proofs.Common.{◌≡◌, pos, None, ℕ, List, Option, Bool, sym, subst}
use Rattle.bfs_base.specs.declared.kind.KeyKind.TheVariants.{Text}
use Rattle.bfs_super.specs.Geometry.{geometry_of}
use Rattle.bfs_node.specs.Page.{Row}
use Rattle.bfs_pages.specs.Maps.{assoc, put}
use Rattle.bfs_stream.specs.Sizes.{Origin, sizes_of}
use Rattle.bfs_make.specs.NumberTrees.{IsTreeOf}
use Rattle.bfs_make.specs.Refused.{IsPutFault}
use Rattle.bfs_shift.specs.Lists.{with_rows}
use Rattle.bfs_shift.specs.Work.{IsStepped}
use Rattle.bfs_moves.specs.Written.{HasRowsSince}
use Rattle.bfs_shift.proofs.AtWork.{directory_held, directory_map}
use Rattle.bfs_moves.proofs.Named.{undone_put, named_step, still_there}
use Rattle.bfs_moves.proofs.rows.put_name.Goals as goal

pub put_row-requires-clause-stream : goal.put_row-requires-clause-stream
put_row-requires-clause-stream g c m told =
    let h = c.requires.directory m told in
    directory_held c.args.sup.now c.args.bitmap.now m h.tree h.lists h.loose c.args.dir h.node c.requires.valid h.work h.there h.kind

pub returns-in-Err-clause-refused : goal.returns-in-Err-clause-refused
returns-in-Err-clause-refused g c m tree lists loose n told work is dir numbers =
    let o : Origin = record { id = c.args.dir; sizes = sizes_of c.args.sup.now } in
    subst (λ (rows : List Row). IsPutFault Text o c.args.bitmap.now m rows c.args.name.now c.in-Err.fault) (work.stocked.rows c.args.dir n is dir)
    (c.in-Err.ensures.refused m told (directory_map c.args.sup.now c.args.bitmap.now m tree lists loose c.args.dir n c.requires.valid work is dir numbers))

pub returns-in-Ok-check_inode-clause-put : goal.returns-in-Ok-check_inode-clause-put
returns-in-Ok-check_inode-clause-put g c m tree lists loose n told work is dir numbers =
    let s = c.args.sup.now in
    let v = c.args.bitmap.now in
    let now = c.put_row.new.bitmap in
    let o : Origin = record { id = c.args.dir; sizes = sizes_of s } in
    let old = g.E.Blocks.changed c.args.edits.now in
    let told_now = g.E.Blocks.told c.put_row.new.edits in
    let changed_now = g.E.Blocks.changed c.put_row.new.edits in
    let rows : List Row = put Text (lists.rows c.args.dir) c.args.name.now (pos c.args.id) in
    let written : HasRowsSince o v now m rows told_now old changed_now =
    subst (λ (before : List Row). HasRowsSince o v now m (put Text before c.args.name.now (pos c.args.id)) told_now old changed_now) (work.stocked.rows c.args.dir n is dir)
    (c.in-Ok.ensures.put m told (directory_map s v m tree lists loose c.args.dir n c.requires.valid work is dir numbers)) in
    let map = written.since.map in
    let words = c.in-Ok-check_inode.ensures.words map written.since.is (still_there s m c.args.dir v now (IsTreeOf Text rows) told_now old changed_now written) in
    let step = named_step s v m tree lists loose c.args.dir n c.requires.valid work is dir now rows told_now old changed_now written words in
    subst (λ (t : Option (ℕ → Option (List ℕ))). IsStepped (geometry_of s) v now m tree tree (with_rows lists c.args.dir rows) loose t old (g.E.Blocks.changed c.check_inode.new.under)) (sym c.check_inode.ensures.told)
    (subst (λ (after : ℕ → Bool). IsStepped (geometry_of s) v now m tree tree (with_rows lists c.args.dir rows) loose told_now old after) (sym c.check_inode.ensures.changed) step)

pub returns-in-Ok-check_inode-clause-absent : goal.returns-in-Ok-check_inode-clause-absent
returns-in-Ok-check_inode-clause-absent g c m tree lists loose n told work is dir numbers =
    subst (λ (rows : List Row). assoc Text rows c.args.name.now ≡ None) (work.stocked.rows c.args.dir n is dir)
    (c.in-Ok.ensures.absent m told (directory_map c.args.sup.now c.args.bitmap.now m tree lists loose c.args.dir n c.requires.valid work is dir numbers))

pub returns-in-Err-check_inode-clause-refused : goal.returns-in-Err-check_inode-clause-refused
returns-in-Err-check_inode-clause-refused g c m tree lists loose n told work is dir numbers =
    let o : Origin = record { id = c.args.dir; sizes = sizes_of c.args.sup.now } in
    let written = c.in-Ok.ensures.put m told (directory_map c.args.sup.now c.args.bitmap.now m tree lists loose c.args.dir n c.requires.valid work is dir numbers) in
    undone_put o c.args.bitmap.now c.put_row.new.bitmap m written.since.map (lists.rows c.args.dir) c.args.name.now written.since.moved c.in-Err-check_inode.fault c.in-Err-check_inode.ensures.undone
