use Rattle.std.proofs.Common.{rules, ◌≡◌, ℤ, length, true, sym, ap, subst}
use mir.Syntax.{w64}
use mir.Val.{to_z, of_z}
use Rattle.bfs_bitmap.specs.Runs.{as_kept}
use Rattle.bfs_super.specs.Geometry.{geometry_of}
use Rattle.bfs_node.specs.declared.fault.TreeFault.{TreeFault}
use Rattle.bfs_node.specs.declared.fault.TreeFault.TheVariants as tree
use Rattle.bfs_stream.specs.declared.fault.GrowFault.{GrowFault}
use Rattle.bfs_stream.specs.declared.fault.GrowFault.TheVariants as grow
use Rattle.bfs_sound.specs.Inodes.{stream_blocks}
use Rattle.bfs_sound.specs.Volumes.{sizes}
use Rattle.bfs_shift.specs.Shifts.{volume_in}
use Rattle.bfs_calls.specs.Done.{IsUnanswered, HasAnswerCause}
use Rattle.bfs_calls.proofs.Faulting.{caused_whole, caused_in, cause_earlier}
use Rattle.bfs_set_size.specs.Sized.{HasSizeWritten, HasRoomFor}
use Rattle.bfs_set_size.proofs.Resized.{has_resized, enough_fits, enlarged_blocks, largest_fills}
use Rattle.bfs_set_size.proofs.resizing.enlarge.Goals as goal

pub returns-in-Ok-put_file_size-clause-resized : goal.returns-in-Ok-put_file_size-clause-resized
returns-in-Ok-put_file_size-clause-resized g c m tree lists loose n told work clear is file more =
    let s = c.args.sup.now in
    let v = c.args.bitmap.now in
    let now = c.grow_file.new.bitmap in
    let id = c.args.id in
    let size = c.args.size in
    let blocks = c.blocks_for-blocks.result in
    let old = g.E.Blocks.changed c.args.edits.now in
    let mid = g.E.Blocks.changed c.grow_file.new.edits in
    let new = g.E.Blocks.changed c.put_file_size.new.edits in
    let told_mid = g.E.Blocks.told c.grow_file.new.edits in
    let told_now = g.E.Blocks.told c.put_file_size.new.edits in
    let time : to_z w64 (of_z w64 c.args.stamp) ≡ c.args.stamp = search rules in
    let room : HasRoomFor (geometry_of s) v now m tree lists loose id blocks told_mid old mid = c.in-Ok.ensures.grown m tree lists loose n told work clear is file in
    let one = room.step in
    let few = enough_fits size s.block_size blocks (length (stream_blocks (volume_in (geometry_of s) one.map) id)) c.blocks_for-blocks.ensures.enough room.enough in
    let written : HasSizeWritten (geometry_of s) now one.map tree lists loose id size c.args.stamp true told_now mid new =
    subst (λ (z : ℤ). HasSizeWritten (geometry_of s) now one.map tree lists loose id size z true told_now mid new) time (c.in-Ok-put_file_size.ensures.sized now one.map tree lists loose n true one.is one.work one.resizes.clear is file few) in
    let two = written.step in
    has_resized (geometry_of s) v now now m tree tree lists loose id n.size size c.args.stamp true told_mid told_now old mid new one two
    (enlarged_blocks (sizes (geometry_of s)) n.size size (length (stream_blocks (volume_in (geometry_of s) m) id)) (length (stream_blocks (volume_in (geometry_of s) two.map) id)) (length (stream_blocks (volume_in (geometry_of s) one.map) id)) blocks more c.blocks_for-blocks.ensures.count (ap length written.same) room.most room.stays)

pub returns-in-Err-clause-unanswered : goal.returns-in-Err-clause-unanswered
returns-in-Err-clause-unanswered g c m tree lists loose n told work clear is file = c.in-Err.ensures.unanswered m tree lists loose n told work is file (largest_fills c.args.sup.now c.args.size c.blocks_for-blocks.result c.requires.valid c.requires.few c.blocks_for-blocks.ensures.count)

pub returns-in-Err-put_file_size-clause-unanswered : goal.returns-in-Err-put_file_size-clause-unanswered
returns-in-Err-put_file_size-clause-unanswered g c m tree lists loose n told work clear is file =
    subst (λ (f : TreeFault GrowFault). IsUnanswered f) (sym c.blocked.ensures) (caused_whole (g.E.Blocks.counts c.grow_file.new.edits) (g.E.Blocks.counts c.put_file_size.new.edits) c.in-Err-put_file_size.fault c.in-Err-put_file_size.ensures.cause.failed)

pub returns-in-Err-put_file_size-clause-cause : goal.returns-in-Err-put_file_size-clause-cause
returns-in-Err-put_file_size-clause-cause g c =
    subst (λ (f : TreeFault GrowFault). HasAnswerCause (g.E.Blocks.counts c.args.edits.now) (g.E.Blocks.counts c.put_file_size.new.edits) f) (sym c.blocked.ensures)
    (cause_earlier (g.E.Blocks.counts c.args.edits.now) (g.E.Blocks.counts c.grow_file.new.edits) (g.E.Blocks.counts c.put_file_size.new.edits) (tree.Pages (grow.Block c.in-Err-put_file_size.fault)) c.in-Ok.ensures.later
    (caused_in (g.E.Blocks.counts c.grow_file.new.edits) (g.E.Blocks.counts c.put_file_size.new.edits) c.in-Err-put_file_size.fault c.in-Err-put_file_size.ensures.cause.failed))

pub returns-in-Ok-put_file_size-clause-kept : goal.returns-in-Ok-put_file_size-clause-kept
returns-in-Ok-put_file_size-clause-kept g c = ap as_kept c.grow_file.ensures.rest

pub returns-in-Err-clause-kept : goal.returns-in-Err-clause-kept
returns-in-Err-clause-kept g c = ap as_kept c.grow_file.ensures.rest

pub returns-in-Err-put_file_size-clause-kept : goal.returns-in-Err-put_file_size-clause-kept
returns-in-Err-put_file_size-clause-kept g c = ap as_kept c.grow_file.ensures.rest
