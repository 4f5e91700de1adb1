use Rattle.std.proofs.Common.{subst}
use Rattle.bfs_attr.specs.Bearers.{bearer_of}
use Rattle.bfs_bytes.specs.declared.Run.{Run}
use Rattle.bfs_stream.proofs.Stops.{cause_later, caused_in}
use Rattle.bfs_attr.proofs.Tops.{cause_sound}
use Rattle.bfs_attr_write.specs.Directories.{HasAddress}
use Rattle.bfs_attr_write.proofs.DropsDirectory.{directory_held, bearer_told, has_dropped}
use Rattle.bfs_attr_write.proofs.directory.drop_attribute_directory.Goals as goal

pub returns-in-Err-clause-sound : goal.returns-in-Err-clause-sound
returns-in-Err-clause-sound g c m told can = c.in-Err.ensures.sound m told (directory_held (bearer_of c.args.inode c.args.site.sup) c.args.bitmap.now c.give_inode.new.bitmap m c.args.directory can).1.owns

pub returns-in-Ok-put_address-clause-dropped : goal.returns-in-Ok-put_address-clause-dropped
returns-in-Ok-put_address-clause-dropped g c m told can =
    let b = bearer_of c.args.inode c.args.site.sup in
    let v = c.args.bitmap.now in
    let mid = c.give_inode.new.bitmap in
    let d = c.args.directory in
    let told1 = g.E.Blocks.told c.give_inode.new.edits in
    let told2 = g.E.Blocks.told c.put_address.new.edits in
    let old = g.E.Blocks.changed c.args.edits.now in
    let half = g.E.Blocks.changed c.give_inode.new.edits in
    let new = g.E.Blocks.changed c.put_address.new.edits in
    let gone = c.in-Ok.ensures.given m told (directory_held b v mid m d can).1.owns in
    let put = c.in-Ok-put_address.ensures.written gone.map gone.is (bearer_told b v mid m d can told1 old half gone c.give_inode.ensures.rest) in
    has_dropped b v mid m d can told1 old half gone c.give_inode.ensures.rest told2
    (subst (λ (r : Run). HasAddress gone.map c.args.inode r told2) c.no_run.ensures put) new c.in-Ok-put_address.ensures.changed

pub returns-in-Err-put_address-clause-sound : goal.returns-in-Err-put_address-clause-sound
returns-in-Err-put_address-clause-sound g c m told can =
    cause_sound (g.E.Blocks.counts c.give_inode.new.edits) (g.E.Blocks.counts c.put_address.new.edits) c.in-Err-put_address.fault c.in-Err-put_address.ensures.cause

pub returns-in-Err-clause-cause : goal.returns-in-Err-clause-cause
returns-in-Err-clause-cause g c = (tt, c.in-Err.ensures.cause)

pub returns-in-Err-put_address-clause-cause : goal.returns-in-Err-put_address-clause-cause
returns-in-Err-put_address-clause-cause g c = (
  tt,
  cause_later (g.E.Blocks.counts c.args.edits.now) (g.E.Blocks.counts c.give_inode.new.edits) (g.E.Blocks.counts c.put_address.new.edits) c.in-Err-put_address.fault c.in-Ok.ensures.later
      (caused_in (g.E.Blocks.counts c.give_inode.new.edits) (g.E.Blocks.counts c.put_address.new.edits) c.in-Err-put_address.fault c.in-Err-put_address.ensures.cause),
)
