use Rattle.std.proofs.Common.{rules, ◌≡◌, [], ℤ, pos, sym, subst}
use mir.Syntax.{w64}
use mir.Val.{to_z, of_z}
use Rattle.bfs_base.specs.declared.kind.KeyKind.TheVariants.{Text}
use Rattle.bfs_super.specs.Geometry.{geometry_of}
use Rattle.bfs_pages.specs.Maps.{put}
use Rattle.bfs_stream.specs.Sizes.{sizes_of}
use Rattle.bfs_shift.specs.Lists.{with_rows}
use Rattle.bfs_shift.specs.Work.{IsStepped}
use Rattle.bfs_calls.specs.Done.{IsUnanswered}
use Rattle.bfs_calls.specs.Made.{with_new, with_touched}
use Rattle.bfs_calls.proofs.Faulting.{put_unanswered}
use Rattle.bfs_calls.proofs.Newborn.{still_there, still_numbers, still_free}
use Rattle.bfs_moves.proofs.Stepping.{stepped_twice}
use Rattle.bfs_calls.proofs.entering.enter_name.Goals as goal

pub put_name-requires-clause-directory : goal.put_name-requires-clause-directory
put_name-requires-clause-directory g c m told =
    let h = c.requires.born m told in
    record {
      tree = with_new h.tree c.args.id h.node;
      lists = h.begun;
      loose = [];
      node = h.d;
      work = h.born.work;
      there = still_there (geometry_of c.args.sup.now) c.args.bitmap.now m h.tree h.lists h.begun c.args.dir h.d c.args.id h.node h.born;
      kind = h.born.dir_kind;
    }

pub returns-in-Err-clause-unanswered : goal.returns-in-Err-clause-unanswered
returns-in-Err-clause-unanswered g c m tree lists begun d node told born named =
    let s = geometry_of c.args.sup.now in
    let there = still_there s c.args.bitmap.now m tree lists begun c.args.dir d c.args.id node born in
    let numbers = still_numbers s c.args.bitmap.now m tree lists begun c.args.dir d c.args.id node born in
    subst IsUnanswered (sym c.not_put.ensures)
    (put_unanswered (record { id = c.args.dir; sizes = sizes_of c.args.sup.now }) c.args.bitmap.now m (begun.rows c.args.dir) c.args.name.now c.args.dir c.in-Err.fault
    (still_free s c.args.bitmap.now m tree lists begun c.args.dir d c.args.id node born c.args.name.now named)
    (c.in-Err.ensures.refused m (with_new tree c.args.id node) begun [] d told born.work there born.dir_kind numbers))

pub returns-in-Ok-stamp_directory-clause-named : goal.returns-in-Ok-stamp_directory-clause-named
returns-in-Ok-stamp_directory-clause-named g c m tree lists begun d node told born named =
    let s = geometry_of c.args.sup.now in
    let there = still_there s c.args.bitmap.now m tree lists begun c.args.dir d c.args.id node born in
    let numbers = still_numbers s c.args.bitmap.now m tree lists begun c.args.dir d c.args.id node born in
    let rows = with_rows begun c.args.dir (put Text (begun.rows c.args.dir) c.args.name.now (pos c.args.id)) in
    let one = c.in-Ok.ensures.put m (with_new tree c.args.id node) begun [] d told born.work there born.dir_kind numbers in
    let e : to_z w64 (of_z w64 c.args.stamp) ≡ c.args.stamp = search rules in
    let two : IsStepped s c.put_name.new.bitmap c.put_name.new.bitmap one.map (with_new tree c.args.id node) (with_touched (with_new tree c.args.id node) c.args.dir d c.args.stamp) rows [] (g.E.Blocks.told c.stamp_directory.new.edits) (g.E.Blocks.changed c.put_name.new.edits) (g.E.Blocks.changed c.stamp_directory.new.edits) =
    subst (λ (z : ℤ). IsStepped s c.put_name.new.bitmap c.put_name.new.bitmap one.map (with_new tree c.args.id node) (with_touched (with_new tree c.args.id node) c.args.dir d z) rows [] (g.E.Blocks.told c.stamp_directory.new.edits) (g.E.Blocks.changed c.put_name.new.edits) (g.E.Blocks.changed c.stamp_directory.new.edits)) e
    (c.in-Ok-stamp_directory.ensures.stamped c.put_name.new.bitmap one.map (with_new tree c.args.id node) rows [] d one.is one.work there born.dir_kind) in
    stepped_twice s c.args.bitmap.now c.put_name.new.bitmap c.put_name.new.bitmap m (with_new tree c.args.id node) (with_new tree c.args.id node) (with_touched (with_new tree c.args.id node) c.args.dir d c.args.stamp) rows rows [] []
    (g.E.Blocks.told c.put_name.new.edits) (g.E.Blocks.told c.stamp_directory.new.edits) (g.E.Blocks.changed c.args.edits.now) (g.E.Blocks.changed c.put_name.new.edits) (g.E.Blocks.changed c.stamp_directory.new.edits) one two
