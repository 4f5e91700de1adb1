use Rattle.std.proofs.Common.{◌≡◌, ◌<◌, ◌+◌, ◌*◌, ◌∙◌, inl, List, sym, ap, arith, refl}
use Rattle.std.specs.Prelude.{length, set, pos, ℕ, [], ◌∷◌}
use Rattle.std.specs.Option.{option_map}
use Rattle.bfs_txn.specs.Told.{with_block}
use Rattle.bfs_inode.specs.Inode.{Stream, stream_at}
use Rattle.bfs_stream.specs.Places.{run_blocks}
use Rattle.bfs_stream.specs.Sizes.{first_block}
use Rattle.bfs_stream.specs.declared.table.TheConstants.{NO_RUN}
use Rattle.bfs_stream.specs.declared.lookup.Ends.{Ends}
use Rattle.bfs_stream.proofs.Levels.{length-counted}
use Rattle.bfs_growth.proofs.AddsDirect.{added}
use Rattle.bfs_growth.proofs.Written.{set_stays}
use Rattle.bfs_stream.proofs.Writes.{wrote_bits, wrote_set, wrote_twice, IsBitBlockOf, all_bits}
use Rattle.bfs_stream.proofs.Placed.{direct_end}
use Rattle.bfs_stream.proofs.Few.{few_direct}
use Rattle.bfs_growth.proofs.Stops.{step_none}
use Rattle.bfs_stream.specs.Scans.{ends_of}
use Rattle.bfs_stream.specs.Told.{contents}
use Rattle.bfs_stream.proofs.Named.{direct_blocks}
use Rattle.bfs_growth.proofs.adding.add_direct.Goals as goal

pub returns-in-Ok-set-clause-grown : goal.returns-in-Ok-set-clause-grown
returns-in-Ok-set-clause-grown g c m is owns read used =
    let o = c.args.stream.now in
    let run = c.in-Ok.run' in
    let some : 0 < run.len = let e = c.in-Ok.ensures.long.0 in omega (arith, e) in
    let fields : ℕ → Stream = λ n. record (stream_at c.args.bytes.now) { direct = set (set (stream_at c.args.bytes.now).direct (c.args.used + 1) NO_RUN) c.args.used run; max_direct_range = pos (o.sizes.block_size * (c.ends-blocks.result.direct + n)) } in
    let put : stream_at c.put_direct.new.bytes ≡ fields run.len = c.put_direct.ensures.stream ∙ ap fields c.from-len.ensures in (
      run_blocks o.sizes run,
      length-counted (first_block o.sizes run) run.len ∙ sym c.from-len.ensures,
      added o c.args.bitmap.now c.take.new.bitmap run NO_RUN m (g.E.Blocks.told c.take.new.edits) (g.E.Blocks.told c.set.new.self) c.args.bytes.now c.put_direct.new.bytes c.args.used c.ends-blocks.result.direct owns (c.in-Ok.ensures.took m is owns.fits) c.in-Ok.ensures.rest
          (c.in-Ok-set.ensures.told ∙ ap (λ (k : ℕ). option_map (with_block k c.put_direct.new.bytes) (g.E.Blocks.told c.take.new.edits)) c.inode-id.ensures)
          read used c.requires.room (ap (λ (e : Ends). e.direct) c.ends-blocks.ensures) c.sizes.ensures.sizes c.in-Ok.ensures.inside some refl put c.put_direct.ensures.rest
          (g.E.Blocks.changed c.args.edits.now) (g.E.Blocks.changed c.set.new.self)
          (wrote_twice (IsBitBlockOf c.args.bitmap.now (run_blocks o.sizes run)) (g.E.Blocks.changed c.args.edits.now) (g.E.Blocks.changed c.take.new.edits) (g.E.Blocks.changed c.set.new.self) (o.id ∷ [])
          (wrote_bits (IsBitBlockOf c.args.bitmap.now (run_blocks o.sizes run)) (g.E.Blocks.changed c.args.edits.now) (g.E.Blocks.changed c.take.new.edits) (o.id ∷ []) (all_bits c.args.bitmap.now (run_blocks o.sizes run) (g.E.Blocks.changed c.args.edits.now) (g.E.Blocks.changed c.take.new.edits) c.in-Ok.ensures.changed c.in-Ok.ensures.bits))
          (wrote_set (IsBitBlockOf c.args.bitmap.now (run_blocks o.sizes run)) (g.E.Blocks.changed c.take.new.edits) (g.E.Blocks.changed c.set.new.self) c.inode-id.result o.id (c.inode-id.ensures) c.in-Ok-set.ensures.changed))
          (λ k t. set_stays c.inode-id.result (g.E.Blocks.changed c.take.new.edits) (g.E.Blocks.changed c.set.new.self) c.in-Ok-set.ensures.changed k (c.in-Ok.ensures.stays k t)),
    )

pub returns-then-blocks-gt-MOST_BLOCKS-clause-faults : goal.returns-then-blocks-gt-MOST_BLOCKS-clause-faults
returns-then-blocks-gt-MOST_BLOCKS-clause-faults g c m is owns read used t =
    let o = c.args.stream.now in
    let few = few_direct o.sizes (contents m) o.id c.sizes.ensures.sizes owns.stands.sound in
    let end : c.ends-blocks.result.direct ≡ length (direct_blocks o.sizes (contents m) o.id) =
    ap (λ (e : Ends). e.direct) c.ends-blocks.ensures ∙ ap (λ (b : List ℕ). (ends_of o.sizes (stream_at b)).direct) read ∙ direct_end o.sizes (contents m) o.id c.sizes.ensures.sizes owns.stands.sound in
    let high = c.if-blocks-gt-MOST_BLOCKS.true in
    omega (arith, few, end, high)

pub returns-in-Err-clause-faults : goal.returns-in-Err-clause-faults
returns-in-Err-clause-faults g c m is owns read used = step_none c.args.stream.now c.args.bitmap.now m 1 c.in-Err.fault owns (inl refl) (c.in-Err.ensures.no_run m is owns.fits)
