use Rattle.std.proofs.Common.{[], ◌∷◌, inr, refl, arith}
use Rattle.bfs_growth.proofs.AddsArray.{inode_told, opened, ready}
use Rattle.bfs_stream.proofs.Writes.{wrote_bits, wrote_first, wrote_behind, wrote_thrice, IsBitBlockOf, all_bits}
use Rattle.bfs_stream.specs.Places.{run_blocks}
use Rattle.bfs_growth.proofs.Stops.{step_none}
use Rattle.bfs_growth.proofs.adding.open_indirect.Goals as goal

pub returns-in-Ok-put_indirect-clause-grown : goal.returns-in-Ok-put_indirect-clause-grown
returns-in-Ok-put_indirect-clause-grown g c m is owns full empty =
    let o = c.args.stream.now in
    let array = c.in-Ok.array in
    let took = c.in-Ok.ensures.took m is owns.fits in
    let cleared = c.in-Ok-clear_array.ensures.cleared took.map took.is in
    let wrote = c.in-Ok-put_indirect.ensures.put cleared.map cleared.is
    (inode_told o c.args.bitmap.now c.take.new.bitmap array m (g.E.Blocks.told c.take.new.edits) (g.E.Blocks.told c.clear_array.new.edits) (g.E.Blocks.told c.put_indirect.new.edits) owns took c.in-Ok.ensures.rest cleared) in (
      [],
      refl,
      opened o c.args.bitmap.now c.take.new.bitmap array m (g.E.Blocks.told c.take.new.edits) (g.E.Blocks.told c.clear_array.new.edits) (g.E.Blocks.told c.put_indirect.new.edits) owns took c.in-Ok.ensures.rest cleared
          wrote full empty c.in-Ok.ensures.inside (g.E.Blocks.changed c.args.edits.now) (g.E.Blocks.changed c.put_indirect.new.edits)
          (wrote_thrice (IsBitBlockOf c.args.bitmap.now (run_blocks o.sizes array)) (g.E.Blocks.changed c.args.edits.now) (g.E.Blocks.changed c.take.new.edits) (g.E.Blocks.changed c.clear_array.new.edits) (g.E.Blocks.changed c.put_indirect.new.edits) (o.id ∷ run_blocks o.sizes array)
          (wrote_bits (IsBitBlockOf c.args.bitmap.now (run_blocks o.sizes array)) (g.E.Blocks.changed c.args.edits.now) (g.E.Blocks.changed c.take.new.edits) (o.id ∷ run_blocks o.sizes array) (all_bits c.args.bitmap.now (run_blocks o.sizes array) (g.E.Blocks.changed c.args.edits.now) (g.E.Blocks.changed c.take.new.edits) c.in-Ok.ensures.changed c.in-Ok.ensures.bits))
          (wrote_behind (IsBitBlockOf c.args.bitmap.now (run_blocks o.sizes array)) (g.E.Blocks.changed c.take.new.edits) (g.E.Blocks.changed c.clear_array.new.edits) o.id (run_blocks o.sizes array) c.in-Ok-clear_array.ensures.written)
          (wrote_first (IsBitBlockOf c.args.bitmap.now (run_blocks o.sizes array)) (g.E.Blocks.changed c.clear_array.new.edits) (g.E.Blocks.changed c.put_indirect.new.edits) o.id (run_blocks o.sizes array) c.in-Ok-put_indirect.ensures.written))
          (λ k t. c.in-Ok-put_indirect.ensures.stays k (c.in-Ok-clear_array.ensures.stays k (c.in-Ok.ensures.stays k t)))
          (λ k has. c.in-Ok-put_indirect.ensures.stays k (c.in-Ok-clear_array.ensures.set k has)),
    )

pub returns-in-Ok-put_indirect-clause-ready : goal.returns-in-Ok-put_indirect-clause-ready
returns-in-Ok-put_indirect-clause-ready g c m is owns full empty n now =
    let o = c.args.stream.now in
    let array = c.in-Ok.array in
    let took = c.in-Ok.ensures.took m is owns.fits in
    let cleared = c.in-Ok-clear_array.ensures.cleared took.map took.is in
    let wrote = c.in-Ok-put_indirect.ensures.put cleared.map cleared.is
    (inode_told o c.args.bitmap.now c.take.new.bitmap array m (g.E.Blocks.told c.take.new.edits) (g.E.Blocks.told c.clear_array.new.edits) (g.E.Blocks.told c.put_indirect.new.edits) owns took c.in-Ok.ensures.rest cleared) in
    let a = c.array_length-whole.ensures.some in
    let lo = c.in-Ok.ensures.long.0 in
    ready o c.args.bitmap.now c.take.new.bitmap array m (g.E.Blocks.told c.take.new.edits) (g.E.Blocks.told c.clear_array.new.edits) (g.E.Blocks.told c.put_indirect.new.edits) owns took c.in-Ok.ensures.rest cleared wrote full empty c.in-Ok.ensures.inside n now (omega (arith, a, lo))

pub returns-in-Err-clause-faults : goal.returns-in-Err-clause-faults
returns-in-Err-clause-faults g c m is owns full empty = step_none c.args.stream.now c.args.bitmap.now m c.array_length-whole.result c.in-Err.fault owns (inr c.array_length-whole.ensures.value) (c.in-Err.ensures.no_run m is owns.fits)
