use Rattle.std.proofs.Common.{rules, ◌≡◌, ℤ, length, false, sym, subst}
use mir.Syntax.{w64}
use mir.Val.{to_z, of_z}
use Rattle.bfs_super.specs.Geometry.{geometry_of}
use Rattle.bfs_node.specs.declared.fault.TreeFault.{TreeFault}
use Rattle.bfs_stream.specs.declared.fault.GrowFault.{GrowFault}
use Rattle.bfs_sound.specs.Inodes.{stream_blocks}
use Rattle.bfs_sound.specs.Volumes.{sizes}
use Rattle.bfs_shift.specs.Shifts.{volume_in}
use Rattle.bfs_calls.specs.Done.{IsUnanswered, HasAnswerCause}
use Rattle.bfs_calls.proofs.Faulting.{caused_whole, caused_in, cause_earlier}
use Rattle.bfs_set_size.specs.Sized.{with_size, HasSizeWritten}
use Rattle.bfs_set_size.proofs.Resized.{sized_there, has_resized, smaller_fits, shrunk_blocks}
use Rattle.bfs_set_size.proofs.resizing.shrink.Goals as goal

pub returns-in-Ok-cut_file-clause-resized : goal.returns-in-Ok-cut_file-clause-resized
returns-in-Ok-cut_file-clause-resized g c m tree lists loose n told work clear is file less =
    let s = c.args.sup.now in
    let v = c.args.bitmap.now in
    let now = c.cut_file.new.bitmap in
    let id = c.args.id in
    let size = c.args.size in
    let old = g.E.Blocks.changed c.args.edits.now in
    let mid = g.E.Blocks.changed c.put_file_size.new.edits in
    let new = g.E.Blocks.changed c.cut_file.new.edits in
    let told_mid = g.E.Blocks.told c.put_file_size.new.edits in
    let told_now = g.E.Blocks.told c.cut_file.new.edits in
    let time : to_z w64 (of_z w64 c.args.stamp) ≡ c.args.stamp = search rules in
    let few = smaller_fits s v m tree lists loose id n size c.requires.valid work is file less in
    let written : HasSizeWritten (geometry_of s) v m tree lists loose id size c.args.stamp false told_mid old mid =
    subst (λ (z : ℤ). HasSizeWritten (geometry_of s) v m tree lists loose id size z false told_mid old mid) time (c.in-Ok.ensures.sized v m tree lists loose n false told work clear is file few) in
    let one = written.step in
    let after = with_size tree id size c.args.stamp in
    let cut = c.in-Ok-cut_file.ensures.cut one.map after lists loose (record n { size = size; modified = c.args.stamp; changed = c.args.stamp }) one.is one.work one.resizes.clear (sized_there tree id n size c.args.stamp is) file c.blocks_for-blocks.ensures.enough in
    has_resized (geometry_of s) v v now m tree after lists loose id n.size size c.args.stamp false told_mid told_now old mid new one cut.step
    (shrunk_blocks (sizes (geometry_of s)) n.size size (length (stream_blocks (volume_in (geometry_of s) m) id)) (length (stream_blocks (volume_in (geometry_of s) cut.step.map) id)) c.blocks_for-blocks.result less c.blocks_for-blocks.ensures.count cut.most)

pub returns-in-Err-clause-unanswered : goal.returns-in-Err-clause-unanswered
returns-in-Err-clause-unanswered g c m tree lists loose n told work clear is file less =
    subst (λ (f : TreeFault GrowFault). IsUnanswered f) (sym c.blocked.ensures) (caused_whole (g.E.Blocks.counts c.args.edits.now) (g.E.Blocks.counts c.put_file_size.new.edits) c.in-Err.fault c.in-Err.ensures.cause.failed)

pub returns-in-Err-cut_file-clause-unanswered : goal.returns-in-Err-cut_file-clause-unanswered
returns-in-Err-cut_file-clause-unanswered g c m tree lists loose n told work clear is file less =
    let s = c.args.sup.now in
    let v = c.args.bitmap.now in
    let id = c.args.id in
    let size = c.args.size in
    let old = g.E.Blocks.changed c.args.edits.now in
    let mid = g.E.Blocks.changed c.put_file_size.new.edits in
    let told_mid = g.E.Blocks.told c.put_file_size.new.edits in
    let time : to_z w64 (of_z w64 c.args.stamp) ≡ c.args.stamp = search rules in
    let few = smaller_fits s v m tree lists loose id n size c.requires.valid work is file less in
    let written : HasSizeWritten (geometry_of s) v m tree lists loose id size c.args.stamp false told_mid old mid =
    subst (λ (z : ℤ). HasSizeWritten (geometry_of s) v m tree lists loose id size z false told_mid old mid) time (c.in-Ok.ensures.sized v m tree lists loose n false told work clear is file few) in
    let one = written.step in
    c.in-Err-cut_file.ensures.unanswered one.map (with_size tree id size c.args.stamp) lists loose (record n { size = size; modified = c.args.stamp; changed = c.args.stamp }) one.is one.work (sized_there tree id n size c.args.stamp is) file c.blocks_for-blocks.ensures.enough

pub returns-in-Err-clause-cause : goal.returns-in-Err-clause-cause
returns-in-Err-clause-cause g c =
    subst (λ (f : TreeFault GrowFault). HasAnswerCause (g.E.Blocks.counts c.args.edits.now) (g.E.Blocks.counts c.put_file_size.new.edits) f) (sym c.blocked.ensures)
    (caused_in (g.E.Blocks.counts c.args.edits.now) (g.E.Blocks.counts c.put_file_size.new.edits) c.in-Err.fault c.in-Err.ensures.cause.failed)

pub returns-in-Err-cut_file-clause-cause : goal.returns-in-Err-cut_file-clause-cause
returns-in-Err-cut_file-clause-cause g c =
    cause_earlier (g.E.Blocks.counts c.args.edits.now) (g.E.Blocks.counts c.put_file_size.new.edits) (g.E.Blocks.counts c.cut_file.new.edits) c.in-Err-cut_file.fault c.put_file_size.ensures.cause.later c.in-Err-cut_file.ensures.cause
