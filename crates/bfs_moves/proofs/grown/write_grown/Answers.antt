use Rattle.std.proofs.Common.{ℕ, List, [], Option, length, arith}
use Rattle.bfs_super.specs.Conditions.{ceil}
use Rattle.std.specs.Prelude.{max}
use Rattle.bfs_txn.specs.Told.{with_block}
use Rattle.bfs_stream.proofs.Stops.{cause_wider, caused_in}
use Rattle.bfs_stream.specs.Sizes.{sizes_of}
use Rattle.bfs_moves.proofs.Enlarged.{first_stream, first_places, first_size, first_owns, grown_now}
use Rattle.bfs_stream.proofs.Sized.{valid_sizes}
use Rattle.bfs_moves.proofs.Rooms.{has_room, two_blocks, undamaged}
use Rattle.bfs_moves.proofs.grown.write_grown.Goals as goal

pub returns-in-Ok-write_stream-clause-grown : goal.returns-in-Ok-write_stream-clause-grown
returns-in-Ok-write_stream-clause-grown g c m tree lists rest told work =
    let s = c.args.sup.now in
    let v = c.args.bitmap.now in
    let id = c.args.block in
    let name = c.args.name.now in
    let valid = c.requires.valid in
    let started = g.E.Blocks.told c.write_empty.new.edits in
    let old = g.E.Blocks.changed c.args.edits.now in
    let mid = g.E.Blocks.changed c.write_empty.new.edits in
    let changed = c.write_empty.ensures.changed in
    let stays = c.write_empty.ensures.stays in
    let own = c.in-Ok.ensures.set in
    let born = c.in-Ok.ensures.written m told in
    let first : ℕ → Option (List ℕ) = with_block id born.bytes m in
    let owns = first_owns s v m tree lists rest id c.args.new name started old mid valid work born changed stays own in
    let places = first_places s v m tree lists rest id c.args.new name started old mid valid work born changed stays own in
    let size = first_size s v m tree lists rest id c.args.new name started old mid valid work born changed stays own in
    grown_now s v m tree lists rest id c.args.new name started old mid valid work born changed stays own
    c.write_stream.new.bitmap c.args.bytes.now (g.E.Blocks.told c.write_stream.new.edits) (g.E.Blocks.changed c.write_stream.new.edits) (c.in-Ok-write_stream.ensures.written first born.is owns places size)

pub returns-in-Err-clause-sound : goal.returns-in-Err-clause-sound
returns-in-Err-clause-sound g c m tree lists rest told work =
    ([], 0, omega arith, undamaged (g.E.Blocks.counts c.args.edits.now) (g.E.Blocks.counts c.write_empty.new.edits) c.in-Err.fault c.in-Err.ensures.cause.failed)

pub returns-in-Err-clause-cause : goal.returns-in-Err-clause-cause
returns-in-Err-clause-cause g c = caused_in (g.E.Blocks.counts c.args.edits.now) (g.E.Blocks.counts c.write_empty.new.edits) c.in-Err.fault c.in-Err.ensures.cause.failed

pub returns-in-Err-write_stream-clause-sound : goal.returns-in-Err-write_stream-clause-sound
returns-in-Err-write_stream-clause-sound g c m tree lists rest told work =
    let s = c.args.sup.now in
    let v = c.args.bitmap.now in
    let id = c.args.block in
    let name = c.args.name.now in
    let valid = c.requires.valid in
    let started = g.E.Blocks.told c.write_empty.new.edits in
    let old = g.E.Blocks.changed c.args.edits.now in
    let mid = g.E.Blocks.changed c.write_empty.new.edits in
    let changed = c.write_empty.ensures.changed in
    let stays = c.write_empty.ensures.stays in
    let own = c.in-Ok.ensures.set in
    let born = c.in-Ok.ensures.written m told in
    let first : ℕ → Option (List ℕ) = with_block id born.bytes m in
    let owns = first_owns s v m tree lists rest id c.args.new name started old mid valid work born changed stays own in
    let stream = first_stream s v m tree lists rest id c.args.new name started old mid valid work born changed stays own in
    let places = first_places s v m tree lists rest id c.args.new name started old mid valid work born changed stays own in
    let size = first_size s v m tree lists rest id c.args.new name started old mid valid work born changed stays own in
    let few = (valid_sizes s valid).block_size in (
      born.bytes,
      ceil (length c.args.bytes.now) s.block_size,
      two_blocks s.block_size (length c.args.bytes.now) few c.requires.few,
      c.few_fault.ensures.sound (record { id = id; sizes = sizes_of s }) v first (ceil (length c.args.bytes.now) s.block_size) (has_room s first id (length c.args.bytes.now) valid c.requires.few stream)
          (c.in-Err-write_stream.ensures.faults first born.is owns places size),
    )

pub returns-in-Err-write_stream-clause-cause : goal.returns-in-Err-write_stream-clause-cause
returns-in-Err-write_stream-clause-cause g c =
    let n = max 1 (ceil (length c.args.bytes.now) c.args.sup.now.block_size) in
    let a = g.E.Blocks.counts c.args.edits.now in
    let b = g.E.Blocks.counts c.write_empty.new.edits in
    let d = g.E.Blocks.counts c.write_stream.new.edits in
    c.few_fault.ensures.cause n a d (cause_wider n n a b d c.in-Err-write_stream.fault (omega arith) c.in-Ok.ensures.cause.later c.in-Err-write_stream.ensures.cause)
