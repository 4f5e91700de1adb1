use Rattle.std.proofs.Common.{◌≡◌, ◌<◌, ◌+◌, ◌*◌, ◌∙◌, ◌⊎◌, ◌∷◌, true, sym, subst, inr, arith, refl}
use Rattle.std.specs.Prelude.{length, pos, ℕ, List}
use Rattle.bfs_base.specs.Lists.{Has}
use Rattle.bfs_bytes.specs.declared.Run.{Run}
use Rattle.bfs_inode.specs.Inode.{stream_at}
use Rattle.bfs_stream.specs.Places.{run_blocks, blocks_of, used_runs}
use Rattle.bfs_stream.specs.Sizes.{first_block, array_length, runs_per_block}
use Rattle.bfs_stream.specs.Told.{contents}
use Rattle.bfs_stream.specs.Grown.{HasFields, table_runs}
use Rattle.bfs_stream.specs.declared.table.TheConstants.{NO_RUN}
use Rattle.bfs_stream.proofs.Levels.{length-counted}
use Rattle.bfs_stream.proofs.Belows.{all_places}
use Rattle.bfs_growth.proofs.AddsRun.{added, uses, took_arrays, took_tables, took_listed, ended_length, inode_told}
use Rattle.bfs_stream.proofs.Parts.{listed_blocks}
use Rattle.bfs_stream.proofs.Writes.{wrote_bits, wrote_first, wrote_behind, wrote_four, IsBitBlockOf, all_bits}
use Rattle.bfs_growth.proofs.Stops.{step_none}
use Rattle.bfs_growth.proofs.adding.add_double.Goals as goal

pub returns-in-Ok-put_double_range-clause-grown : goal.returns-in-Ok-put_double_range-clause-grown
returns-in-Ok-put_double_range-clause-grown g c m is owns tables =
    let o = c.args.stream.now in
    let v = c.args.bitmap.now in
    let now = c.take.new.bitmap in
    let array = c.args.tables.array in
    let listed = c.args.tables.listed in
    let used = c.args.tables.used in
    let total = c.args.tables.blocks in
    let run = c.in-Ok.run' in
    let told1 = g.E.Blocks.told c.take.new.edits in
    let told2 = g.E.Blocks.told c.end_below.new.edits in
    let told3 = g.E.Blocks.told c.put_below.new.edits in
    let told4 = g.E.Blocks.told c.put_double_range.new.edits in
    let some : 0 < run.len = let e = c.array_length-whole.ensures.some in let lo = c.in-Ok.ensures.long.0 in omega (arith, e, lo) in
    let took = c.in-Ok.ensures.took m is owns.fits in
    let has = took_tables o v now run array m told1 owns took tables.0 in
    let all = took_listed o v now run array m told1 owns took tables.0 listed tables.1 in
    let ended = c.in-Ok-end_below.ensures.put took.map took.is has all in
    let size = all_places o.sizes array took.map listed (array_length o.sizes) (runs_per_block o.sizes) has.arrays refl refl all in
    let room : used < length (table_runs o.sizes (contents took.map) array) = let r = c.requires.room in omega (arith, size, r) in
    let now_long = ended_length o v now run array m told1 owns took tables.0 NO_RUN told2 told3 told4 used total c.in-Ok.ensures.rest ended in
    let inside : used < length (table_runs o.sizes (contents ended.map) array) = omega (arith, room, now_long) in
    let here = took_arrays o v now run array m told1 owns took tables.0 in
    let put = c.in-Ok-put_below.ensures.put ended.map ended.is ended.tables inside in
    let wrote = c.in-Ok-put_double_range.ensures.put put.map put.is (inode_told o v now run array m told1 owns took tables.0 NO_RUN told2 told3 told4 used total c.in-Ok.ensures.rest ended put) in
    let wrote' = subst (λ (n : ℕ). HasFields o (record (stream_at (contents put.map o.id)) { max_double_indirect_range = pos (o.sizes.block_size * (total + n)) }) put.map told4) c.from-len.ensures wrote in (
      run_blocks o.sizes run,
      length-counted (first_block o.sizes run) run.len ∙ sym c.from-len.ensures,
      added o v now run array m told1 owns took tables.0 NO_RUN told2 told3 told4 used total c.in-Ok.ensures.rest ended put wrote' tables.2 tables.3 room
          (record { inside = c.in-Ok.ensures.inside; long = let e = c.array_length-whole.ensures.value in let lo = c.in-Ok.ensures.long.0 in let hi = c.in-Ok.ensures.long.1 in omega (arith, e, lo, hi) }) some refl (g.E.Blocks.changed c.args.edits.now) (g.E.Blocks.changed c.put_double_range.new.edits)
          (wrote_four (IsBitBlockOf c.args.bitmap.now (run_blocks o.sizes run)) (g.E.Blocks.changed c.args.edits.now) (g.E.Blocks.changed c.take.new.edits) (g.E.Blocks.changed c.end_below.new.edits) (g.E.Blocks.changed c.put_below.new.edits) (g.E.Blocks.changed c.put_double_range.new.edits) (o.id ∷ listed_blocks o m)
          (wrote_bits (IsBitBlockOf c.args.bitmap.now (run_blocks o.sizes run)) (g.E.Blocks.changed c.args.edits.now) (g.E.Blocks.changed c.take.new.edits) (o.id ∷ listed_blocks o m) (all_bits c.args.bitmap.now (run_blocks o.sizes run) (g.E.Blocks.changed c.args.edits.now) (g.E.Blocks.changed c.take.new.edits) c.in-Ok.ensures.changed c.in-Ok.ensures.bits))
          (wrote_behind (IsBitBlockOf c.args.bitmap.now (run_blocks o.sizes run)) (g.E.Blocks.changed c.take.new.edits) (g.E.Blocks.changed c.end_below.new.edits) o.id (listed_blocks o m) (λ k e. subst (λ (l : List Run). (g.E.Blocks.changed c.take.new.edits k ≡ true) ⊎ Has (blocks_of o.sizes (used_runs l)) k) here (c.in-Ok-end_below.ensures.written took.map took.is has all k e)))
          (wrote_behind (IsBitBlockOf c.args.bitmap.now (run_blocks o.sizes run)) (g.E.Blocks.changed c.end_below.new.edits) (g.E.Blocks.changed c.put_below.new.edits) o.id (listed_blocks o m) (λ k e. subst (λ (l : List Run). (g.E.Blocks.changed c.end_below.new.edits k ≡ true) ⊎ Has (blocks_of o.sizes (used_runs l)) k) (ended.listed ∙ here) (c.in-Ok-put_below.ensures.written ended.map ended.is ended.tables inside k e)))
          (wrote_first (IsBitBlockOf c.args.bitmap.now (run_blocks o.sizes run)) (g.E.Blocks.changed c.put_below.new.edits) (g.E.Blocks.changed c.put_double_range.new.edits) o.id (listed_blocks o m) c.in-Ok-put_double_range.ensures.written))
          (λ k t. c.in-Ok-put_double_range.ensures.stays k (c.in-Ok-put_below.ensures.stays k (c.in-Ok-end_below.ensures.stays k (c.in-Ok.ensures.stays k t)))),
    )

pub returns-in-Err-clause-faults : goal.returns-in-Err-clause-faults
returns-in-Err-clause-faults g c m is owns tables = step_none c.args.stream.now c.args.bitmap.now m c.array_length-whole.result c.in-Err.fault owns (inr c.array_length-whole.ensures.value) (c.in-Err.ensures.no_run m is owns.fits)

pub returns-in-Err-end_below-clause-faults : goal.returns-in-Err-end_below-clause-faults
returns-in-Err-end_below-clause-faults g c m is owns tables =
    let o = c.args.stream.now in
    let v = c.args.bitmap.now in
    let now = c.take.new.bitmap in
    let array = c.args.tables.array in
    let listed = c.args.tables.listed in
    let run = c.in-Ok.run' in
    let told1 = g.E.Blocks.told c.take.new.edits in
    let took = c.in-Ok.ensures.took m is owns.fits in
    let has = took_tables o v now run array m told1 owns took tables.0 in
    let all = took_listed o v now run array m told1 owns took tables.0 listed tables.1 in
    c.in-Err-end_below.ensures.sound took.map took.is has all

pub returns-in-Err-put_below-clause-faults : goal.returns-in-Err-put_below-clause-faults
returns-in-Err-put_below-clause-faults g c m is owns tables =
    let o = c.args.stream.now in
    let v = c.args.bitmap.now in
    let now = c.take.new.bitmap in
    let array = c.args.tables.array in
    let listed = c.args.tables.listed in
    let used = c.args.tables.used in
    let total = c.args.tables.blocks in
    let run = c.in-Ok.run' in
    let told1 = g.E.Blocks.told c.take.new.edits in
    let told2 = g.E.Blocks.told c.end_below.new.edits in
    let took = c.in-Ok.ensures.took m is owns.fits in
    let has = took_tables o v now run array m told1 owns took tables.0 in
    let all = took_listed o v now run array m told1 owns took tables.0 listed tables.1 in
    let ended = c.in-Ok-end_below.ensures.put took.map took.is has all in
    let size = all_places o.sizes array took.map listed (array_length o.sizes) (runs_per_block o.sizes) has.arrays refl refl all in
    let room : used < length (table_runs o.sizes (contents took.map) array) = let r = c.requires.room in omega (arith, size, r) in
    let now_long = ended_length o v now run array m told1 owns took tables.0 NO_RUN told2 told2 told2 used total c.in-Ok.ensures.rest ended in
    let inside : used < length (table_runs o.sizes (contents ended.map) array) = omega (arith, room, now_long) in
    c.in-Err-put_below.ensures.sound ended.map ended.is ended.tables inside

pub returns-in-Ok-put_double_range-clause-uses : goal.returns-in-Ok-put_double_range-clause-uses
returns-in-Ok-put_double_range-clause-uses g c m is owns tables n now_is =
    let o = c.args.stream.now in
    let v = c.args.bitmap.now in
    let now = c.take.new.bitmap in
    let array = c.args.tables.array in
    let listed = c.args.tables.listed in
    let used = c.args.tables.used in
    let total = c.args.tables.blocks in
    let run = c.in-Ok.run' in
    let told1 = g.E.Blocks.told c.take.new.edits in
    let told2 = g.E.Blocks.told c.end_below.new.edits in
    let told3 = g.E.Blocks.told c.put_below.new.edits in
    let told4 = g.E.Blocks.told c.put_double_range.new.edits in
    let some : 0 < run.len = let e = c.array_length-whole.ensures.some in let lo = c.in-Ok.ensures.long.0 in omega (arith, e, lo) in
    let took = c.in-Ok.ensures.took m is owns.fits in
    let has = took_tables o v now run array m told1 owns took tables.0 in
    let all = took_listed o v now run array m told1 owns took tables.0 listed tables.1 in
    let ended = c.in-Ok-end_below.ensures.put took.map took.is has all in
    let size = all_places o.sizes array took.map listed (array_length o.sizes) (runs_per_block o.sizes) has.arrays refl refl all in
    let room : used < length (table_runs o.sizes (contents took.map) array) = let r = c.requires.room in omega (arith, size, r) in
    let now_long = ended_length o v now run array m told1 owns took tables.0 NO_RUN told2 told3 told4 used total c.in-Ok.ensures.rest ended in
    let inside : used < length (table_runs o.sizes (contents ended.map) array) = omega (arith, room, now_long) in
    let put = c.in-Ok-put_below.ensures.put ended.map ended.is ended.tables inside in
    let wrote = c.in-Ok-put_double_range.ensures.put put.map put.is (inode_told o v now run array m told1 owns took tables.0 NO_RUN told2 told3 told4 used total c.in-Ok.ensures.rest ended put) in
    let wrote' = subst (λ (n : ℕ). HasFields o (record (stream_at (contents put.map o.id)) { max_double_indirect_range = pos (o.sizes.block_size * (total + n)) }) put.map told4) c.from-len.ensures wrote in
    uses o v now run array m told1 owns took tables.0 NO_RUN told2 told3 told4 used total c.in-Ok.ensures.rest ended put wrote' tables.2 tables.3 room
    (record { inside = c.in-Ok.ensures.inside; long = let e = c.array_length-whole.ensures.value in let lo = c.in-Ok.ensures.long.0 in let hi = c.in-Ok.ensures.long.1 in omega (arith, e, lo, hi) }) some refl n now_is
