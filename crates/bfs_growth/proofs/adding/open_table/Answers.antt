use Rattle.std.proofs.Common.{[], ◌++◌, inr, refl, arith, ◌<◌, ◌∙◌, ap, sym}
use Rattle.std.specs.Prelude.{length}
use Rattle.bfs_bytes.specs.declared.Run.{Run}
use Rattle.bfs_stream.specs.Places.{run_blocks, used_runs, array_runs}
use Rattle.bfs_stream.specs.Told.{contents}
use Rattle.bfs_growth.proofs.AddsTable.{opened, told_array, ready}
use Rattle.bfs_stream.proofs.Writes.{wrote_bits, wrote_these, wrote_left, wrote_right, wrote_four, IsBitBlockOf, all_bits}
use Rattle.bfs_growth.proofs.Stops.{step_none}
use Rattle.bfs_growth.proofs.adding.open_table.Goals as goal

pub returns-in-Ok-put_in_array-clause-grown : goal.returns-in-Ok-put_in_array-clause-grown
returns-in-Ok-put_in_array-clause-grown g c m is owns array_is listed_is =
    let o = c.args.stream.now in
    let table = c.in-Ok.table in
    let some : 0 < table.len = let e = c.array_length-whole.ensures.some in let lo = c.in-Ok.ensures.long.0 in omega (arith, e, lo) in
    let took = c.in-Ok.ensures.took m is owns.fits in
    let cleared = c.in-Ok-clear_array.ensures.cleared took.map took.is in
    let ended = c.in-Ok-end_in_array.ensures.put cleared.map cleared.is
    (told_array o c.args.bitmap.now c.take.new.bitmap table c.args.array m (g.E.Blocks.told c.take.new.edits) (g.E.Blocks.told c.clear_array.new.edits) (g.E.Blocks.told c.end_in_array.new.edits) (g.E.Blocks.told c.put_in_array.new.edits) c.args.listed owns took c.in-Ok.ensures.rest cleared array_is) in
    let put = c.in-Ok-put_in_array.ensures.put ended.map ended.is ended.are_told in (
      [],
      refl,
      opened o c.args.bitmap.now c.take.new.bitmap table c.args.array m (g.E.Blocks.told c.take.new.edits) (g.E.Blocks.told c.clear_array.new.edits) (g.E.Blocks.told c.end_in_array.new.edits) (g.E.Blocks.told c.put_in_array.new.edits) c.args.listed owns took c.in-Ok.ensures.rest cleared array_is
          listed_is ended put c.requires.room (record { inside = c.in-Ok.ensures.inside; long = let e = c.array_length-whole.ensures.value in let lo = c.in-Ok.ensures.long.0 in let hi = c.in-Ok.ensures.long.1 in omega (arith, e, lo, hi) }) some (g.E.Blocks.changed c.args.edits.now) (g.E.Blocks.changed c.put_in_array.new.edits)
          (wrote_four (IsBitBlockOf c.args.bitmap.now (run_blocks o.sizes table)) (g.E.Blocks.changed c.args.edits.now) (g.E.Blocks.changed c.take.new.edits) (g.E.Blocks.changed c.clear_array.new.edits) (g.E.Blocks.changed c.end_in_array.new.edits) (g.E.Blocks.changed c.put_in_array.new.edits) (run_blocks o.sizes c.args.array ++ run_blocks o.sizes table)
          (wrote_bits (IsBitBlockOf c.args.bitmap.now (run_blocks o.sizes table)) (g.E.Blocks.changed c.args.edits.now) (g.E.Blocks.changed c.take.new.edits) (run_blocks o.sizes c.args.array ++ run_blocks o.sizes table) (all_bits c.args.bitmap.now (run_blocks o.sizes table) (g.E.Blocks.changed c.args.edits.now) (g.E.Blocks.changed c.take.new.edits) c.in-Ok.ensures.changed c.in-Ok.ensures.bits))
          (wrote_right (IsBitBlockOf c.args.bitmap.now (run_blocks o.sizes table)) (g.E.Blocks.changed c.take.new.edits) (g.E.Blocks.changed c.clear_array.new.edits) (run_blocks o.sizes c.args.array) (run_blocks o.sizes table) (wrote_these (IsBitBlockOf c.args.bitmap.now (run_blocks o.sizes table)) (g.E.Blocks.changed c.take.new.edits) (g.E.Blocks.changed c.clear_array.new.edits) (run_blocks o.sizes table) c.in-Ok-clear_array.ensures.written))
          (wrote_left (IsBitBlockOf c.args.bitmap.now (run_blocks o.sizes table)) (g.E.Blocks.changed c.clear_array.new.edits) (g.E.Blocks.changed c.end_in_array.new.edits) (run_blocks o.sizes c.args.array) (run_blocks o.sizes table) (wrote_these (IsBitBlockOf c.args.bitmap.now (run_blocks o.sizes table)) (g.E.Blocks.changed c.clear_array.new.edits) (g.E.Blocks.changed c.end_in_array.new.edits) (run_blocks o.sizes c.args.array) c.in-Ok-end_in_array.ensures.written))
          (wrote_left (IsBitBlockOf c.args.bitmap.now (run_blocks o.sizes table)) (g.E.Blocks.changed c.end_in_array.new.edits) (g.E.Blocks.changed c.put_in_array.new.edits) (run_blocks o.sizes c.args.array) (run_blocks o.sizes table) (wrote_these (IsBitBlockOf c.args.bitmap.now (run_blocks o.sizes table)) (g.E.Blocks.changed c.end_in_array.new.edits) (g.E.Blocks.changed c.put_in_array.new.edits) (run_blocks o.sizes c.args.array) c.in-Ok-put_in_array.ensures.written)))
          (λ k t. c.in-Ok-put_in_array.ensures.stays k (c.in-Ok-end_in_array.ensures.stays k (c.in-Ok-clear_array.ensures.stays k (c.in-Ok.ensures.stays k t))))
          (λ k has. c.in-Ok-put_in_array.ensures.stays k (c.in-Ok-end_in_array.ensures.stays k (c.in-Ok-clear_array.ensures.set k has))),
    )

pub returns-in-Ok-put_in_array-clause-ready : goal.returns-in-Ok-put_in_array-clause-ready
returns-in-Ok-put_in_array-clause-ready g c m is owns used blocks before n now =
    let o = c.args.stream.now in
    let table = c.in-Ok.table in
    let some : 0 < table.len = let e = c.array_length-whole.ensures.some in let lo = c.in-Ok.ensures.long.0 in omega (arith, e, lo) in
    let took = c.in-Ok.ensures.took m is owns.fits in
    let cleared = c.in-Ok-clear_array.ensures.cleared took.map took.is in
    let ended = c.in-Ok-end_in_array.ensures.put cleared.map cleared.is
    (told_array o c.args.bitmap.now c.take.new.bitmap table c.args.array m (g.E.Blocks.told c.take.new.edits) (g.E.Blocks.told c.clear_array.new.edits) (g.E.Blocks.told c.end_in_array.new.edits) (g.E.Blocks.told c.put_in_array.new.edits) c.args.listed owns took c.in-Ok.ensures.rest cleared before.0) in
    let put = c.in-Ok-put_in_array.ensures.put ended.map ended.is ended.are_told in
    ready o c.args.bitmap.now c.take.new.bitmap table c.args.array m (g.E.Blocks.told c.take.new.edits) (g.E.Blocks.told c.clear_array.new.edits) (g.E.Blocks.told c.end_in_array.new.edits) (g.E.Blocks.told c.put_in_array.new.edits) c.args.listed owns took c.in-Ok.ensures.rest cleared before.0
    (before.1 ∙ ap (λ (r : Run). length (used_runs (array_runs o.sizes (contents m) r))) (sym before.0)) ended put c.requires.room
    (record { inside = c.in-Ok.ensures.inside; long = let e = c.array_length-whole.ensures.value in let lo = c.in-Ok.ensures.long.0 in let hi = c.in-Ok.ensures.long.1 in omega (arith, e, lo, hi) }) some n now used blocks before

pub returns-in-Err-clause-faults : goal.returns-in-Err-clause-faults
returns-in-Err-clause-faults g c m is owns array_is listed_is = step_none c.args.stream.now c.args.bitmap.now m c.array_length-whole.result c.in-Err.fault owns (inr c.array_length-whole.ensures.value) (c.in-Err.ensures.no_run m is owns.fits)
