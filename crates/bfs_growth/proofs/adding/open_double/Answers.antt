use Rattle.std.proofs.Common.{[], ◌∷◌, inr, refl, arith}
use Rattle.bfs_growth.proofs.AddsArray.{inode_told}
use Rattle.bfs_growth.proofs.AddsDouble.{opened, ready}
use Rattle.bfs_stream.proofs.Writes.{wrote_bits, wrote_first, wrote_behind, wrote_thrice, IsBitBlockOf, all_bits}
use Rattle.bfs_stream.specs.Places.{run_blocks}
use Rattle.bfs_growth.proofs.Stops.{step_none}
use Rattle.bfs_growth.proofs.adding.open_double.Goals as goal

pub returns-in-Ok-put_double-clause-grown : goal.returns-in-Ok-put_double-clause-grown
returns-in-Ok-put_double-clause-grown g c m is owns some full empty =
    let o = c.args.stream.now in
    let array = c.in-Ok.array in
    let took = c.in-Ok.ensures.took m is owns.fits in
    let cleared = c.in-Ok-clear_array.ensures.cleared took.map took.is in
    let wrote = c.in-Ok-put_double.ensures.put cleared.map cleared.is
    (inode_told o c.args.bitmap.now c.take.new.bitmap array m (g.E.Blocks.told c.take.new.edits) (g.E.Blocks.told c.clear_array.new.edits) (g.E.Blocks.told c.put_double.new.edits) owns took c.in-Ok.ensures.rest cleared) in (
      [],
      refl,
      opened o c.args.bitmap.now c.take.new.bitmap array m (g.E.Blocks.told c.take.new.edits) (g.E.Blocks.told c.clear_array.new.edits) (g.E.Blocks.told c.put_double.new.edits) owns took c.in-Ok.ensures.rest cleared
          wrote some full empty (record { inside = c.in-Ok.ensures.inside; long = let e = c.array_length-whole.ensures.value in let lo = c.in-Ok.ensures.long.0 in let hi = c.in-Ok.ensures.long.1 in omega (arith, e, lo, hi) }) (g.E.Blocks.changed c.args.edits.now) (g.E.Blocks.changed c.put_double.new.edits)
          (wrote_thrice (IsBitBlockOf c.args.bitmap.now (run_blocks o.sizes array)) (g.E.Blocks.changed c.args.edits.now) (g.E.Blocks.changed c.take.new.edits) (g.E.Blocks.changed c.clear_array.new.edits) (g.E.Blocks.changed c.put_double.new.edits) (o.id ∷ run_blocks o.sizes array)
          (wrote_bits (IsBitBlockOf c.args.bitmap.now (run_blocks o.sizes array)) (g.E.Blocks.changed c.args.edits.now) (g.E.Blocks.changed c.take.new.edits) (o.id ∷ run_blocks o.sizes array) (all_bits c.args.bitmap.now (run_blocks o.sizes array) (g.E.Blocks.changed c.args.edits.now) (g.E.Blocks.changed c.take.new.edits) c.in-Ok.ensures.changed c.in-Ok.ensures.bits))
          (wrote_behind (IsBitBlockOf c.args.bitmap.now (run_blocks o.sizes array)) (g.E.Blocks.changed c.take.new.edits) (g.E.Blocks.changed c.clear_array.new.edits) o.id (run_blocks o.sizes array) c.in-Ok-clear_array.ensures.written)
          (wrote_first (IsBitBlockOf c.args.bitmap.now (run_blocks o.sizes array)) (g.E.Blocks.changed c.clear_array.new.edits) (g.E.Blocks.changed c.put_double.new.edits) o.id (run_blocks o.sizes array) c.in-Ok-put_double.ensures.written))
          (λ k t. c.in-Ok-put_double.ensures.stays k (c.in-Ok-clear_array.ensures.stays k (c.in-Ok.ensures.stays k t)))
          (λ k has. c.in-Ok-put_double.ensures.stays k (c.in-Ok-clear_array.ensures.set k has)),
    )

pub returns-in-Ok-put_double-clause-ready : goal.returns-in-Ok-put_double-clause-ready
returns-in-Ok-put_double-clause-ready g c m is owns some full empty n now =
    let o = c.args.stream.now in
    let array = c.in-Ok.array in
    let took = c.in-Ok.ensures.took m is owns.fits in
    let cleared = c.in-Ok-clear_array.ensures.cleared took.map took.is in
    let wrote = c.in-Ok-put_double.ensures.put cleared.map cleared.is
    (inode_told o c.args.bitmap.now c.take.new.bitmap array m (g.E.Blocks.told c.take.new.edits) (g.E.Blocks.told c.clear_array.new.edits) (g.E.Blocks.told c.put_double.new.edits) owns took c.in-Ok.ensures.rest cleared) in
    let e = c.array_length-whole.ensures.value in
    let a = c.array_length-whole.ensures.some in
    let lo = c.in-Ok.ensures.long.0 in
    let hi = c.in-Ok.ensures.long.1 in
    ready o c.args.bitmap.now c.take.new.bitmap array m (g.E.Blocks.told c.take.new.edits) (g.E.Blocks.told c.clear_array.new.edits) (g.E.Blocks.told c.put_double.new.edits) owns took c.in-Ok.ensures.rest cleared wrote some full empty (record { inside = c.in-Ok.ensures.inside; long = omega (arith, e, lo, hi) }) n now (omega (arith, a, lo))

pub returns-in-Err-clause-faults : goal.returns-in-Err-clause-faults
returns-in-Err-clause-faults g c m is owns some full empty = step_none c.args.stream.now c.args.bitmap.now m c.array_length-whole.result c.in-Err.fault owns (inr c.array_length-whole.ensures.value) (c.in-Err.ensures.no_run m is owns.fits)
