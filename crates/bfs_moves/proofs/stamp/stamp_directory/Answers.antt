use Rattle.std.proofs.Common.{ℤ, subst, w64}
use Rattle.std.proofs.lemmas.Int.{to_z-of_z}
use Rattle.bfs_moves.specs.Written.{IsRestamped}
use Rattle.bfs_shift.proofs.AtWork.{inode_told}
use Rattle.bfs_moves.proofs.Restamped.{stamped_step}
use Rattle.bfs_moves.proofs.stamp.stamp_directory.Goals as goal

pub returns-in-Ok-write_stamp-clause-stamped : goal.returns-in-Ok-write_stamp-clause-stamped
returns-in-Ok-write_stamp-clause-stamped g c v m tree lists loose n told work is dir =
    stamped_step c.args.sup.now v m tree lists loose c.args.dir n c.args.stamp (g.E.Blocks.told c.write_stamp.new.edits) (g.E.Blocks.changed c.args.edits.now) (g.E.Blocks.changed c.write_stamp.new.edits) c.requires.valid work is
    (subst (λ (z : ℤ). IsRestamped c.args.dir z m (g.E.Blocks.told c.write_stamp.new.edits)) (to_z-of_z w64 c.args.stamp c.ranges.stamp) (c.in-Ok-write_stamp.ensures.written m told (inode_told c.args.sup.now v m tree lists loose c.args.dir n work is))) c.write_stamp.ensures.changed c.write_stamp.ensures.stays
