use Rattle.std.proofs.Common.{rules, ◌≡◌, ℤ, subst}
use mir.Syntax.{w64}
use mir.Val.{to_z, of_z}
use Rattle.bfs_shift.proofs.AtWork.{inode_told}
use Rattle.bfs_set_size.specs.Sized.{IsSizeSet}
use Rattle.bfs_set_size.proofs.Written.{sized_step}
use Rattle.bfs_set_size.proofs.sizes.put_file_size.Goals as goal

pub returns-in-Ok-write_size-clause-sized : goal.returns-in-Ok-write_size-clause-sized
returns-in-Ok-write_size-clause-sized g c v m tree lists loose n grows told work clear is file few =
    let time : to_z w64 (of_z w64 c.args.stamp) ≡ c.args.stamp = search rules in
    sized_step c.args.sup.now v m tree lists loose c.args.id n c.args.size c.args.stamp grows (g.E.Blocks.told c.write_size.new.edits) (g.E.Blocks.changed c.args.edits.now) (g.E.Blocks.changed c.write_size.new.edits)
    c.requires.valid work clear is file
    (subst (λ (z : ℤ). IsSizeSet c.args.id c.args.size z m (g.E.Blocks.told c.write_size.new.edits)) time (c.in-Ok-write_size.ensures.written m told (inode_told c.args.sup.now v m tree lists loose c.args.id n work is)))
    c.write_size.ensures.changed c.write_size.ensures.stays few
