use Rattle.std.proofs.Common.{◌≡◌, ◌<◌, ◌+◌, ◌-◌, ◌∙◌, ◌⊎◌, ℕ, List, ◌∷◌, length, Some, true, refl, sym, subst, arith}
use Rattle.std.specs.Prelude.{slice_get}
use Rattle.bfs_base.specs.Lists.{Has}
use Rattle.bfs_bytes.specs.declared.Run.{Run}
use Rattle.bfs_super.specs.Conditions.{natural}
use Rattle.bfs_txn.specs.Told.{with_block}
use Rattle.bfs_stream.specs.Sizes.{IsWhole, array_length, first_block}
use Rattle.bfs_stream.specs.Places.{fields, used_runs, array_runs, run_blocks, blocks_of, level_blocks, places_at}
use Rattle.bfs_stream.specs.Told.{contents}
use Rattle.bfs_stream.specs.Grown.{HasPutBelow, table_runs}
use Rattle.bfs_stream.specs.declared.table.TheConstants.{NO_RUN}
use Rattle.bfs_stream.proofs.Levels.{length-counted}
use Rattle.bfs_stream.proofs.Doubles.{length-used, all_at}
use Rattle.bfs_stream.proofs.Parts.{listed_blocks}
use Rattle.bfs_cuts.proofs.CutsDirect.{larger}
use Rattle.bfs_cuts.proofs.CutsIndirect.{front_of, runs_split, front_length, last_has, last_found, front_some, front_none, end_is}
use Rattle.bfs_cuts.proofs.CutsBelow.{arrays_are, has_tables, all_whole, whole_long, inode_told, fits_now, cut}
use Rattle.bfs_stream.proofs.Writes.{wrote_none, wrote_bits, wrote_first, wrote_behind, wrote_four, IsBitBlockOf, all_bits}
use Rattle.bfs_cuts.proofs.cut.cut_below.Goals as goal

pub returns-in-Err-clause-sound : goal.returns-in-Err-clause-sound
returns-in-Err-clause-sound g c m is owns tables =
    let o = c.args.stream.now in
    let s = o.sizes in
    let array = c.args.tables.array in
    let at = last_found (table_runs s (contents m) array) c.args.tables.used tables.2 c.requires.used.0 in
    c.in-Err.ensures.sound m is (has_tables o c.args.bitmap.now array m owns tables.0) at.0 at.1
    (all_at (IsWhole s) (used_runs (table_runs s (contents m) array)) (c.args.tables.used - 1) at.0 (all_whole o c.args.bitmap.now array m owns tables.0) at.2)

pub returns-in-Err-put_below-clause-sound : goal.returns-in-Err-put_below-clause-sound
returns-in-Err-put_below-clause-sound g c m is owns tables =
    let o = c.args.stream.now in
    let s = o.sizes in
    let array = c.args.tables.array in
    let le = length-used (table_runs s (contents m) array) in
    let e = tables.2 in
    let one = c.requires.used.0 in
    c.in-Err-put_below.ensures.sound m (c.in-Ok.ensures.told ∙ is) (has_tables o c.args.bitmap.now array m owns tables.0) (omega (arith, le, e, one))

pub returns-in-Ok-give-clause-trimmed : goal.returns-in-Ok-give-clause-trimmed
returns-in-Ok-give-clause-trimmed g c m is owns tables may =
    let o = c.args.stream.now in
    let s = o.sizes in
    let v = c.args.bitmap.now in
    let array = c.args.tables.array in
    let used = c.args.tables.used in
    let last = c.in-Ok.last in
    let left = c.end_after-left.result in
    let told1 = g.E.Blocks.told c.put_below.new.edits in
    let told2 = g.E.Blocks.told c.put_double_range.new.edits in
    let told3 = g.E.Blocks.told c.give.new.edits in
    let old = g.E.Blocks.changed c.args.edits.now in
    let new = g.E.Blocks.changed c.give.new.edits in
    let one = c.requires.used.0 in
    let runs = table_runs s (contents m) array in
    let used_is : used ≡ length (used_runs runs) = tables.2 in
    let has = has_tables o v array m owns tables.0 in
    let le = length-used runs in
    let inside : used - 1 < length runs = omega (arith, le, used_is, one) in
    let found : slice_get runs (used - 1) ≡ Some last = c.in-Ok.ensures.found m is has inside in
    let front = front_of runs used last used_is one found in
    let split = runs_split runs used last used_is one found in
    let place : used - 1 ≡ length front = sym (front_length runs used last used_is one found) in
    let put : HasPutBelow s array (length front) NO_RUN m told1 = subst (λ (n : ℕ). HasPutBelow s array n NO_RUN m told1) place (c.in-Ok-put_below.ensures.put m (c.in-Ok.ensures.told ∙ is) has inside) in
    let before = length (level_blocks s (fields s (contents m) o.id).direct) + length (level_blocks s (array_runs s (contents m) (fields s (contents m) o.id).indirect)) in
    let long = whole_long o v array m owns tables.0 front last split in
    let taken : c.from-taken.result ≡ last.len = c.from-taken.ensures in
    let zero_len : NO_RUN.len ≡ 0 = refl in
    let total : c.args.tables.blocks ≡ before + (length (blocks_of s front) + (NO_RUN.len + c.from-taken.result)) = let a = tables.3 in omega (arith, a, long, taken, zero_len) in
    let left_is = end_is left before (length (blocks_of s front)) NO_RUN.len c.args.tables.blocks c.from-taken.result (used - 1)
    (λ h. front_some s runs front last split (omega (arith, h, place))) (λ h. front_none s front (omega (arith, h, place))) total
    (λ h. c.end_after-left.ensures.some (omega (arith, h, zero_len))) (λ h. c.end_after-left.ensures.none (omega (arith, h, zero_len))) in
    let whole : IsWhole s last = last_has runs used last used_is one found (IsWhole s) (all_whole o v array m owns tables.0) in
    let all : last.len ≡ array_length s = whole.long in
    let size = larger (natural (fields s (contents m) o.id).size) s.block_size (length (places_at s (contents m) o.id) - array_length s) (before + (length (blocks_of s front) + NO_RUN.len)) may (omega (arith, long, all, zero_len)) in
    let wrote = c.in-Ok-put_double_range.ensures.put put.map put.is (inode_told o v array m owns tables.0 front last split c.give.new.bitmap NO_RUN told1 told2 told3 left put) in
    let fits = fits_now o v array m owns tables.0 front last split c.give.new.bitmap NO_RUN told1 told2 told3 left put wrote zero_len left_is size in
    let gave = c.in-Ok-give.ensures.gave (with_block o.id wrote.bytes put.map) wrote.is fits in
    let done =
    cut o v array m owns tables.0 front last split c.give.new.bitmap NO_RUN told1 told2 told3 left put wrote zero_len left_is size old new gave c.in-Ok-give.ensures.rest
    (wrote_four (IsBitBlockOf v (run_blocks s last)) old (g.E.Blocks.changed c.run_below.new.under) (g.E.Blocks.changed c.put_below.new.edits) (g.E.Blocks.changed c.put_double_range.new.edits) new (o.id ∷ listed_blocks o m)
    (wrote_none (IsBitBlockOf v (run_blocks s last)) old (g.E.Blocks.changed c.run_below.new.under) (o.id ∷ listed_blocks o m) c.in-Ok.ensures.changed)
    (wrote_behind (IsBitBlockOf v (run_blocks s last)) (g.E.Blocks.changed c.run_below.new.under) (g.E.Blocks.changed c.put_below.new.edits) o.id (listed_blocks o m)
    (λ k e. subst (λ (l : List Run). (g.E.Blocks.changed c.run_below.new.under k ≡ true) ⊎ Has (blocks_of s (used_runs l)) k) (arrays_are o v array m owns tables.0) (c.in-Ok-put_below.ensures.written m (c.in-Ok.ensures.told ∙ is) has inside k e)))
    (wrote_first (IsBitBlockOf v (run_blocks s last)) (g.E.Blocks.changed c.put_below.new.edits) (g.E.Blocks.changed c.put_double_range.new.edits) o.id (listed_blocks o m) c.in-Ok-put_double_range.ensures.written)
    (wrote_bits (IsBitBlockOf v (run_blocks s last)) (g.E.Blocks.changed c.put_double_range.new.edits) new (o.id ∷ listed_blocks o m) (all_bits v (run_blocks s last) (g.E.Blocks.changed c.put_double_range.new.edits) new c.in-Ok-give.ensures.changed c.in-Ok-give.ensures.bits))) in
    ((run_blocks s last, length-counted (first_block s last) last.len ∙ sym taken, done.0), done.1)
