use Rattle.std.proofs.Common.{◌≡◌, ◌+◌, ◌-◌, ◌∙◌, ℕ, ◌∷◌, length, Some, true, false, sym, ap, subst, arith}
use Rattle.std.specs.Prelude.{slice_get}
use Rattle.bfs_bytes.specs.declared.Run.{Run}
use Rattle.bfs_super.specs.Conditions.{natural}
use Rattle.bfs_txn.specs.Told.{with_block}
use Rattle.bfs_stream.specs.Sizes.{IsInVolume, first_block}
use Rattle.bfs_stream.specs.Places.{fields, used_runs, array_runs, run_blocks, blocks_of, level_blocks, places_at}
use Rattle.bfs_stream.specs.Told.{contents, AreTold}
use Rattle.bfs_stream.specs.Grown.{HasPut}
use Rattle.bfs_stream.proofs.Levels.{length-counted}
use Rattle.bfs_stream.proofs.Listed.{told_table}
use Rattle.bfs_cuts.proofs.Bounds.{few_places}
use Rattle.bfs_cuts.proofs.Shorter.{parts_of}
use Rattle.bfs_cuts.proofs.CutsDirect.{larger}
use Rattle.bfs_cuts.proofs.CutsIndirect.{front_of, runs_split, front_length, last_long, last_has, front_some, front_none, end_is, inode_told, fits_now, cut}
use Rattle.bfs_stream.proofs.Seconds.{table_whole_long}
use Rattle.bfs_stream.proofs.Writes.{wrote_none, wrote_bits, wrote_first, wrote_behind, wrote_four, IsBitBlockOf, all_bits}
use Rattle.bfs_cuts.proofs.cut.cut_indirect.Goals as goal

pub overflow_add-place : goal.overflow_add-place
overflow_add-place g c =
    let most = few_places c.args.stream.now.sizes c.args.table.array c.sizes.ensures.sizes c.requires.array in
    let used = c.requires.used.1 in
    let kept = c.from-kept.ensures in
    let few = c.shorter-keep.type_inv in
    omega (arith, most, used, kept, few)

pub returns-then-not-is_used-clause-sound : goal.returns-then-not-is_used-clause-sound
returns-then-not-is_used-clause-sound g c m is owns table t =
    let o = c.args.stream.now in
    let s = o.sizes in
    let array = c.args.table.array in
    let last = c.in-Ok.last in
    let runs = array_runs s (contents m) (fields s (contents m) o.id).indirect in
    let used_is : c.args.table.used ≡ length (used_runs runs) = table.1 ∙ ap (λ (r : Run). length (used_runs (array_runs s (contents m) r))) table.0 in
    let told : AreTold m (run_blocks s array) = subst (λ (r : Run). AreTold m (run_blocks s r)) (sym table.0) (told_table o m owns.stands) in
    let found : slice_get runs (c.args.table.used - 1) ≡ Some last = ap (λ (r : Run). slice_get (array_runs s (contents m) r) (c.args.table.used - 1)) (sym table.0) ∙ c.in-Ok.ensures.found m is told in
    let bad : false ≡ true = c.if-not-is_used.ensures.1 (last_long runs c.args.table.used last used_is c.requires.used.0 found, last_has runs c.args.table.used last used_is c.requires.used.0 found (IsInVolume s) owns.stands.sound.in_indirect) in cc

pub returns-in-Ok-give-clause-trimmed : goal.returns-in-Ok-give-clause-trimmed
returns-in-Ok-give-clause-trimmed g c m is owns table none may =
    let o = c.args.stream.now in
    let s = o.sizes in
    let v = c.args.bitmap.now in
    let array = c.args.table.array in
    let used = c.args.table.used in
    let last = c.in-Ok.last in
    let part = c.first_part-part.result in
    let gone = c.last_part-gone.result in
    let left = c.end_after-left.result in
    let told1 = g.E.Blocks.told c.put_in_array.new.edits in
    let told2 = g.E.Blocks.told c.put_indirect_range.new.edits in
    let told3 = g.E.Blocks.told c.give.new.edits in
    let old = g.E.Blocks.changed c.args.edits.now in
    let new = g.E.Blocks.changed c.give.new.edits in
    let runs = array_runs s (contents m) (fields s (contents m) o.id).indirect in
    let used_is : used ≡ length (used_runs runs) = table.1 ∙ ap (λ (r : Run). length (used_runs (array_runs s (contents m) r))) table.0 in
    let told : AreTold m (run_blocks s array) = subst (λ (r : Run). AreTold m (run_blocks s r)) (sym table.0) (told_table o m owns.stands) in
    let found : slice_get runs (used - 1) ≡ Some last = ap (λ (r : Run). slice_get (array_runs s (contents m) r) (used - 1)) (sym table.0) ∙ c.in-Ok.ensures.found m is told in
    let front = front_of runs used last used_is c.requires.used.0 found in
    let split = runs_split runs used last used_is c.requires.used.0 found in
    let place : used - 1 ≡ length front = sym (front_length runs used last used_is c.requires.used.0 found) in
    let put : HasPut s array (length front) part m told1 = subst (λ (n : ℕ). HasPut s array n part m told1) place (c.in-Ok-put_in_array.ensures.put m (c.in-Ok.ensures.told ∙ is) told) in
    let kept_long = c.first_part-part.ensures.long in
    let gone_long = c.last_part-gone.ensures.long in
    let whole : part.len + gone.len ≡ last.len = omega (arith, kept_long, gone_long) in
    let parts = parts_of s last part gone whole c.first_part-part.ensures.first (c.last_part-gone.ensures.first ∙ ap (λ (n : ℕ). first_block s last + n) (sym kept_long)) in
    let before = length (level_blocks s (fields s (contents m) o.id).direct) in
    let long = table_whole_long o m none front last split in
    let total : c.args.table.blocks ≡ before + (length (blocks_of s front) + (part.len + c.from-taken.result)) = let a = table.2 in let b = c.from-taken.ensures in omega (arith, a, long, whole, b) in
    let kept : c.from-kept.result ≡ part.len = c.from-kept.ensures ∙ sym kept_long in
    let left_is = end_is left before (length (blocks_of s front)) part.len c.args.table.blocks c.from-taken.result (used - 1)
    (λ h. front_some s runs front last split (omega (arith, h, place))) (λ h. front_none s front (omega (arith, h, place))) total
    (λ h. c.end_after-left.ensures.some (omega (arith, h, kept))) (λ h. c.end_after-left.ensures.none (omega (arith, h, kept))) in
    let value = c.shorter-keep.ensures.value in
    let size = larger (natural (fields s (contents m) o.id).size) s.block_size (length (places_at s (contents m) o.id) - c.args.most) (before + (length (blocks_of s front) + part.len)) may (omega (arith, long, kept_long, value)) in
    let wrote = c.in-Ok-put_indirect_range.ensures.put put.map put.is (inode_told o v c.give.new.bitmap last part gone array front m told1 told2 told3 left owns table.0 split put) in
    let fits = fits_now o v c.give.new.bitmap last part gone array front m told1 told2 told3 left owns table.0 split put wrote parts c.first_part-part.ensures.inside none left_is size in
    let gave = c.in-Ok-give.ensures.gave (with_block o.id wrote.bytes put.map) wrote.is fits in
    let done =
    cut o v c.give.new.bitmap last part gone array front m told1 told2 told3 left owns table.0 split put wrote parts c.first_part-part.ensures.inside none left_is size old new gave c.in-Ok-give.ensures.rest
    (wrote_four (IsBitBlockOf v (run_blocks s gone)) old (g.E.Blocks.changed c.run_in.new.under) (g.E.Blocks.changed c.put_in_array.new.edits) (g.E.Blocks.changed c.put_indirect_range.new.edits) new (o.id ∷ run_blocks s array)
    (wrote_none (IsBitBlockOf v (run_blocks s gone)) old (g.E.Blocks.changed c.run_in.new.under) (o.id ∷ run_blocks s array) c.in-Ok.ensures.changed)
    (wrote_behind (IsBitBlockOf v (run_blocks s gone)) (g.E.Blocks.changed c.run_in.new.under) (g.E.Blocks.changed c.put_in_array.new.edits) o.id (run_blocks s array) c.in-Ok-put_in_array.ensures.written)
    (wrote_first (IsBitBlockOf v (run_blocks s gone)) (g.E.Blocks.changed c.put_in_array.new.edits) (g.E.Blocks.changed c.put_indirect_range.new.edits) o.id (run_blocks s array) c.in-Ok-put_indirect_range.ensures.written)
    (wrote_bits (IsBitBlockOf v (run_blocks s gone)) (g.E.Blocks.changed c.put_indirect_range.new.edits) new (o.id ∷ run_blocks s array) (all_bits v (run_blocks s gone) (g.E.Blocks.changed c.put_indirect_range.new.edits) new c.in-Ok-give.ensures.changed c.in-Ok-give.ensures.bits))) in
    ((run_blocks s gone, length-counted (first_block s gone) gone.len ∙ sym c.from-taken.ensures, done.0), done.1)
