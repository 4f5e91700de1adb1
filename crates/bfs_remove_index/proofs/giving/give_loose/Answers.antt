use Rattle.std.proofs.Common.{sym, subst}
use Rattle.bfs_super.specs.Geometry.{geometry_of}
use Rattle.bfs_make.specs.Sites.{stream_in}
use Rattle.bfs_maps.specs.Refused.{IsUndone}
use Rattle.bfs_sound.specs.Inodes.{inode_blocks}
use Rattle.bfs_shift.specs.Shifts.{volume_in}
use Rattle.bfs_shift.proofs.Basics.{some_bytes}
use Rattle.bfs_leave.proofs.Givings.{from_inode}
use Rattle.bfs_calls.specs.Done.{HasAnswerCause}
use Rattle.bfs_remove_index.proofs.GivenBack.{alone_owns, loose_given}
use Rattle.bfs_remove_index.proofs.giving.give_loose.Goals as goal

pub returns-in-Ok-clause-given : goal.returns-in-Ok-clause-given
returns-in-Ok-clause-given g c m tree lists loose told work clear stands =
    let s = c.args.site.sup in
    let v = c.args.bitmap.now in
    let now = c.give_inode.new.bitmap in
    let id = c.args.id in
    let told_now = g.E.Blocks.told c.give_inode.new.edits in
    let old = g.E.Blocks.changed c.args.edits.now in
    let new = g.E.Blocks.changed c.give_inode.new.edits in
    let some = some_bytes s c.requires.valid in
    let gave = c.in-Ok.ensures.given m told (alone_owns (geometry_of s) v m tree lists loose id some work stands) in
    loose_given (geometry_of s) v now m tree lists loose (inode_blocks (volume_in (geometry_of s) m) id) told_now old new some work clear (from_inode (stream_in c.args.site id) v now m told_now old new gave)
    c.in-Ok.ensures.rest c.in-Ok.ensures.standing c.in-Ok.ensures.stays

pub returns-in-Err-clause-undone : goal.returns-in-Err-clause-undone
returns-in-Err-clause-undone g c m tree lists loose told work stands =
    let s = c.args.site.sup in
    subst IsUndone (sym c.blocked.ensures) (c.in-Err.ensures.sound m told (alone_owns (geometry_of s) c.args.bitmap.now m tree lists loose c.args.id (some_bytes s c.requires.valid) work stands))

pub returns-in-Err-clause-cause : goal.returns-in-Err-clause-cause
returns-in-Err-clause-cause g c = subst (HasAnswerCause (g.E.Blocks.counts c.args.edits.now) (g.E.Blocks.counts c.give_inode.new.edits)) (sym c.blocked.ensures) c.in-Err.ensures.cause
