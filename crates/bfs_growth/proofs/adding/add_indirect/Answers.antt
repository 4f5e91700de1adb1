use Rattle.std.proofs.Common.{◌<◌, ◌+◌, ◌*◌, ◌∙◌, inl, sym, subst, arith, refl}
use Rattle.std.specs.Prelude.{pos, ℕ, ◌∷◌}
use Rattle.bfs_inode.specs.Inode.{stream_at}
use Rattle.bfs_stream.specs.Places.{run_blocks}
use Rattle.bfs_stream.specs.Sizes.{first_block}
use Rattle.bfs_stream.specs.Told.{contents}
use Rattle.bfs_stream.specs.Grown.{HasFields}
use Rattle.bfs_stream.specs.declared.table.TheConstants.{NO_RUN}
use Rattle.bfs_stream.proofs.Levels.{length-counted}
use Rattle.bfs_growth.proofs.AddsIndirect.{added, told_array, told_inode_now}
use Rattle.bfs_stream.proofs.Writes.{wrote_bits, wrote_first, wrote_behind, wrote_four, IsBitBlockOf, all_bits}
use Rattle.bfs_growth.proofs.Stops.{step_none}
use Rattle.bfs_growth.proofs.adding.add_indirect.Goals as goal

pub returns-in-Ok-put_indirect_range-clause-grown : goal.returns-in-Ok-put_indirect_range-clause-grown
returns-in-Ok-put_indirect_range-clause-grown g c m is owns table =
    let o = c.args.stream.now in
    let run = c.in-Ok.run' in
    let some : 0 < run.len = let e = c.in-Ok.ensures.long.0 in omega (arith, e) in
    let took = c.in-Ok.ensures.took m is owns.fits in
    let ended = c.in-Ok-end_in_array.ensures.put took.map took.is (told_array o c.args.bitmap.now c.take.new.bitmap run NO_RUN c.args.table.array m (g.E.Blocks.told c.take.new.edits) owns took table.0) in
    let put = c.in-Ok-put_in_array.ensures.put ended.map ended.is ended.are_told in
    let wrote = c.in-Ok-put_indirect_range.ensures.put put.map put.is
    (told_inode_now o c.args.bitmap.now c.take.new.bitmap run NO_RUN c.args.table.array m (g.E.Blocks.told c.take.new.edits) owns took table.0 (g.E.Blocks.told c.end_in_array.new.edits) (g.E.Blocks.told c.put_in_array.new.edits) c.args.table.used (c.args.table.used + 1) ended put) in
    let wrote' = subst (λ (n : ℕ). HasFields o (record (stream_at (contents put.map o.id)) { max_indirect_range = pos (o.sizes.block_size * (c.args.table.blocks + n)) }) put.map (g.E.Blocks.told c.put_indirect_range.new.edits)) c.from-len.ensures wrote in (
      run_blocks o.sizes run,
      length-counted (first_block o.sizes run) run.len ∙ sym c.from-len.ensures,
      added o c.args.bitmap.now c.take.new.bitmap run NO_RUN c.args.table.array m (g.E.Blocks.told c.take.new.edits) (g.E.Blocks.told c.end_in_array.new.edits) (g.E.Blocks.told c.put_in_array.new.edits) (g.E.Blocks.told c.put_indirect_range.new.edits)
          c.args.table.used c.args.table.blocks owns took c.in-Ok.ensures.rest table.0 table.1 table.2 ended put wrote' c.requires.room c.in-Ok.ensures.inside some refl (g.E.Blocks.changed c.args.edits.now) (g.E.Blocks.changed c.put_indirect_range.new.edits)
          (wrote_four (IsBitBlockOf c.args.bitmap.now (run_blocks o.sizes run)) (g.E.Blocks.changed c.args.edits.now) (g.E.Blocks.changed c.take.new.edits) (g.E.Blocks.changed c.end_in_array.new.edits) (g.E.Blocks.changed c.put_in_array.new.edits) (g.E.Blocks.changed c.put_indirect_range.new.edits) (o.id ∷ run_blocks o.sizes c.args.table.array)
          (wrote_bits (IsBitBlockOf c.args.bitmap.now (run_blocks o.sizes run)) (g.E.Blocks.changed c.args.edits.now) (g.E.Blocks.changed c.take.new.edits) (o.id ∷ run_blocks o.sizes c.args.table.array) (all_bits c.args.bitmap.now (run_blocks o.sizes run) (g.E.Blocks.changed c.args.edits.now) (g.E.Blocks.changed c.take.new.edits) c.in-Ok.ensures.changed c.in-Ok.ensures.bits))
          (wrote_behind (IsBitBlockOf c.args.bitmap.now (run_blocks o.sizes run)) (g.E.Blocks.changed c.take.new.edits) (g.E.Blocks.changed c.end_in_array.new.edits) o.id (run_blocks o.sizes c.args.table.array) c.in-Ok-end_in_array.ensures.written)
          (wrote_behind (IsBitBlockOf c.args.bitmap.now (run_blocks o.sizes run)) (g.E.Blocks.changed c.end_in_array.new.edits) (g.E.Blocks.changed c.put_in_array.new.edits) o.id (run_blocks o.sizes c.args.table.array) c.in-Ok-put_in_array.ensures.written)
          (wrote_first (IsBitBlockOf c.args.bitmap.now (run_blocks o.sizes run)) (g.E.Blocks.changed c.put_in_array.new.edits) (g.E.Blocks.changed c.put_indirect_range.new.edits) o.id (run_blocks o.sizes c.args.table.array) c.in-Ok-put_indirect_range.ensures.written))
          (λ k t. c.in-Ok-put_indirect_range.ensures.stays k (c.in-Ok-put_in_array.ensures.stays k (c.in-Ok-end_in_array.ensures.stays k (c.in-Ok.ensures.stays k t)))),
    )

pub returns-in-Err-clause-faults : goal.returns-in-Err-clause-faults
returns-in-Err-clause-faults g c m is owns table = step_none c.args.stream.now c.args.bitmap.now m 1 c.in-Err.fault owns (inl refl) (c.in-Err.ensures.no_run m is owns.fits)
