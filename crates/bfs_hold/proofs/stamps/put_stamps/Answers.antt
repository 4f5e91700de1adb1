use Rattle.std.proofs.Common.{rules, ◌≡◌, ℤ, subst}
use mir.Syntax.{w64}
use mir.Val.{to_z, of_z}
use Rattle.bfs_shift.proofs.AtWork.{inode_told}
use Rattle.bfs_hold.specs.Held.{IsStamped}
use Rattle.bfs_hold.proofs.Stamped.{stamped_step}
use Rattle.bfs_hold.proofs.stamps.put_stamps.Goals as goal

pub returns-in-Ok-write_stamps-clause-stamped : goal.returns-in-Ok-write_stamps-clause-stamped
returns-in-Ok-write_stamps-clause-stamped g c v m tree lists loose n told work is =
    let time : to_z w64 (of_z w64 c.args.stamp) ≡ c.args.stamp = search rules in
    stamped_step c.args.sup.now v m tree lists loose c.args.id n c.args.stamp (g.E.Blocks.told c.write_stamps.new.edits) (g.E.Blocks.changed c.args.edits.now) (g.E.Blocks.changed c.write_stamps.new.edits) c.requires.valid work is
    (subst (λ (z : ℤ). IsStamped c.args.id z m (g.E.Blocks.told c.write_stamps.new.edits)) time (c.in-Ok-write_stamps.ensures.written m told (inode_told c.args.sup.now v m tree lists loose c.args.id n work is)))
    c.write_stamps.ensures.changed c.write_stamps.ensures.stays
