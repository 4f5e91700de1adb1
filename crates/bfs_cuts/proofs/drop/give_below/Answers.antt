use Rattle.std.proofs.Common.{◌≡◌, ◌≤◌, ◌+◌, ◌-◌, ◌∙◌, ◌⊎◌, inl, inr, true, ℕ, Bool, List, Some, length, take, drop, refl, sym, ap, subst, arith}
use Rattle.std.specs.Prelude.{slice_get}
use Rattle.bfs_bytes.specs.declared.Run.{Run}
use Rattle.bfs_bitmap.specs.Runs.{Room}
use Rattle.bfs_bitmap.specs.Fills.{IsBitmapBlock}
use Rattle.bfs_stream.specs.Sizes.{IsWhole}
use Rattle.bfs_stream.specs.Places.{blocks_of, used_runs, run_blocks}
use Rattle.bfs_stream.specs.Told.{contents}
use Rattle.bfs_stream.specs.Grown.{IsOfVolume, table_runs, HasBitIn}
use Rattle.bfs_stream.proofs.Arrays.{later_twice}
use Rattle.bfs_stream.proofs.Doubles.{all_at, length-used}
use Rattle.bfs_stream.proofs.Writes.{later_none}
use Rattle.bfs_cuts.proofs.Written.{bits_more}
use Rattle.bfs_cuts.proofs.CutsBelow.{has_tables, all_whole}
use Rattle.bfs_cuts.proofs.Gives.{gave_none, gave_more, gave_owns}
use Rattle.bfs_cuts.proofs.Handed.{next_blocks, used_run, take_all, length-drop, table_runs_stay, tables_stay, gave_as}
use Rattle.bfs_base.specs.Lists.{Has}
use Rattle.bfs_cuts.proofs.drop.give_below.Goals as goal

bits_again : (v now : Room) (a b c : ℕ → Bool) → now ≡ record v { given = now.given; tally = now.tally } → ((k : ℕ) → b k ≡ true → (a k ≡ true) ⊎ IsBitmapBlock v k) → ((k : ℕ) → c k ≡ true → (b k ≡ true) ⊎ IsBitmapBlock now k) → (k : ℕ) → c k ≡ true → (a k ≡ true) ⊎ IsBitmapBlock v k
bits_again v now a b c rest one two k e = by_side (two k e)
  where
    by_side : (b k ≡ true) ⊎ IsBitmapBlock now k → (a k ≡ true) ⊎ IsBitmapBlock v k
    by_side (inl before) = one k before
    by_side (inr bits) = inr (subst (λ (x : Room). IsBitmapBlock x k) rest bits)

pub loop-i-init : goal.loop-i-init
loop-i-init g c = record {
  long = c.requires.length;
  size = refl;
  frame = refl;
  rest = refl;
  kept = refl;
  stands = refl;
  volume = c.requires.volume;
  low = omega arith;
  later = later_none (g.E.Blocks.counts c.args.edits.now);
  changed = λ k e. inl e;
  gave = λ m is owns are.
      let none : c.args.from - c.args.from ≡ 0 = omega arith in
      gave_as c.args.bitmap.now c.args.bitmap.now _ _ m (g.E.Blocks.told c.args.edits.now) (sym (ap (λ (n : ℕ). blocks_of c.args.stream.now.sizes (take n (drop c.args.from (used_runs (table_runs c.args.stream.now.sizes (contents m) c.args.tables.array))))) none)) (gave_none c.args.bitmap.now m (g.E.Blocks.told c.args.edits.now) owns.fits is);
  bits = λ m is owns are k e. inl e;
  stays = λ k t. t;
}

pub loop-i-preserved : goal.loop-i-preserved
loop-i-preserved g c =
    let o = c.args.stream.now in
    let s = o.sizes in
    let v = c.args.bitmap.now in
    let i = c.loop-i.i in
    let rest = c.in-Ok-give.ensures.rest ∙ ap (λ (x : Room). record x { given = c.give.new.bitmap.given; tally = c.give.new.bitmap.tally }) c.loop-i.invariant.rest in
    record {
      long = c.in-Ok.ensures.length;
      size = c.in-Ok-give.ensures.size ∙ c.in-Ok.ensures.size ∙ c.loop-i.invariant.size;
      frame = c.in-Ok-give.ensures.frame ∙ c.in-Ok.ensures.frame ∙ c.loop-i.invariant.frame;
      rest = rest;
      kept = c.in-Ok-give.ensures.kept ∙ c.loop-i.invariant.kept;
      stands = c.in-Ok-give.ensures.standing ∙ c.loop-i.invariant.stands;
      volume = subst (IsOfVolume s) (sym rest) (record { block_size = c.requires.volume.block_size; blocks = c.requires.volume.blocks; group_blocks = c.requires.volume.group_blocks });
      low = let least = c.loop-i.invariant.low in omega (arith, least);
      later = later_twice (g.E.Blocks.counts c.args.edits.now) (g.E.Blocks.counts c.run_below.new.under) (g.E.Blocks.counts c.give.new.edits)
          (later_twice (g.E.Blocks.counts c.args.edits.now) (g.E.Blocks.counts c.loop-i.edits) (g.E.Blocks.counts c.run_below.new.under) c.loop-i.invariant.later c.in-Ok.ensures.later) c.in-Ok-give.ensures.cause.later;
      changed = bits_again v c.loop-i.bitmap (g.E.Blocks.changed c.args.edits.now) (g.E.Blocks.changed c.loop-i.edits) (g.E.Blocks.changed c.give.new.edits) c.loop-i.invariant.rest c.loop-i.invariant.changed
          (λ k e. subst (λ (f : ℕ → Bool). (f k ≡ true) ⊎ IsBitmapBlock c.loop-i.bitmap k) c.in-Ok.ensures.changed (c.in-Ok-give.ensures.changed k e));
      gave = λ m is owns are.
          let so_far = c.loop-i.invariant.gave m is owns are in
          let from = c.args.from in
          let runs = table_runs s (contents m) c.args.tables.array in
          let xs = blocks_of s (take (i - from) (drop from (used_runs runs))) in
          let told0 = g.E.Blocks.told c.loop-i.edits in
          let below = c.loop-i-test.true in
          let least = c.loop-i.invariant.low in
          let used = are.2 in
          let le = length-used runs in
          let own = gave_owns o v c.loop-i.bitmap xs m told0 owns so_far c.loop-i.invariant.rest in
          let still = tables_stay o v c.loop-i.bitmap xs m told0 owns so_far c.loop-i.invariant.rest c.args.tables are in
          let same = table_runs_stay o v c.loop-i.bitmap xs m told0 owns so_far c.loop-i.invariant.rest c.args.tables.array are.0 in
          let long : length (table_runs s (contents so_far.map) c.args.tables.array) ≡ length runs = ap length same in
          let found : slice_get runs (from + (i - from)) ≡ Some c.in-Ok.run' =
          (let e : from + (i - from) ≡ i = omega (arith, least) in ap (slice_get runs) e)
          ∙ ap (λ (l : List Run). slice_get l i) (sym same)
          ∙ c.in-Ok.ensures.found so_far.map so_far.is (has_tables o c.loop-i.bitmap c.args.tables.array so_far.map own still.0) (omega (arith, below, used, le, long)) in
          let more = c.in-Ok-give.ensures.gave so_far.map (c.in-Ok.ensures.told ∙ so_far.is) so_far.fits in
          gave_as v c.give.new.bitmap _ _ m (g.E.Blocks.told c.give.new.edits) (sym (next_blocks s runs from (i - from) (i + 1 - from) c.in-Ok.run' (omega (arith, least)) (omega (arith, least, below, used)) found))
          (gave_more v c.loop-i.bitmap c.give.new.bitmap xs (run_blocks s c.in-Ok.run') m told0 (g.E.Blocks.told c.give.new.edits) so_far c.loop-i.invariant.rest more);
      bits = λ m is owns are.
          let so_far = c.loop-i.invariant.gave m is owns are in
          let from = c.args.from in
          let runs = table_runs s (contents m) c.args.tables.array in
          let xs = blocks_of s (take (i - from) (drop from (used_runs runs))) in
          let told0 = g.E.Blocks.told c.loop-i.edits in
          let below = c.loop-i-test.true in
          let least = c.loop-i.invariant.low in
          let used = are.2 in
          let le = length-used runs in
          let own = gave_owns o v c.loop-i.bitmap xs m told0 owns so_far c.loop-i.invariant.rest in
          let still = tables_stay o v c.loop-i.bitmap xs m told0 owns so_far c.loop-i.invariant.rest c.args.tables are in
          let same = table_runs_stay o v c.loop-i.bitmap xs m told0 owns so_far c.loop-i.invariant.rest c.args.tables.array are.0 in
          let long : length (table_runs s (contents so_far.map) c.args.tables.array) ≡ length runs = ap length same in
          let found : slice_get runs (from + (i - from)) ≡ Some c.in-Ok.run' =
          (let e : from + (i - from) ≡ i = omega (arith, least) in ap (slice_get runs) e)
          ∙ ap (λ (l : List Run). slice_get l i) (sym same)
          ∙ c.in-Ok.ensures.found so_far.map so_far.is (has_tables o c.loop-i.bitmap c.args.tables.array so_far.map own still.0) (omega (arith, below, used, le, long)) in
          bits_more v c.loop-i.bitmap xs (run_blocks s c.in-Ok.run') _ (g.E.Blocks.changed c.args.edits.now) (g.E.Blocks.changed c.loop-i.edits) (g.E.Blocks.changed c.give.new.edits) c.loop-i.invariant.rest (sym (next_blocks s runs from (i - from) (i + 1 - from) c.in-Ok.run' (omega (arith, least)) (omega (arith, least, below, used)) found))
          (c.loop-i.invariant.bits m is owns are) (λ k e. subst (λ (f : ℕ → Bool). (f k ≡ true) ⊎ HasBitIn c.loop-i.bitmap (Has (run_blocks s c.in-Ok.run')) k) c.in-Ok.ensures.changed (c.in-Ok-give.ensures.bits k e));
      stays = λ k t. c.in-Ok-give.ensures.stays k (subst (λ (f : ℕ → Bool). f k ≡ true) (sym c.in-Ok.ensures.changed) (c.loop-i.invariant.stays k t));
    }

pub returns-clause-gave : goal.returns-clause-gave
returns-clause-gave g c m is owns are =
    let s = c.args.stream.now.sizes in
    let runs = used_runs (table_runs s (contents m) c.args.tables.array) in
    let from = c.args.from in
    let low = c.loop-i-test.false in
    let used = are.2 in
    let long = length-drop runs from in
    gave_as c.args.bitmap.now c.loop-i.bitmap _ _ m (g.E.Blocks.told c.loop-i.edits) (ap (blocks_of s) (take_all (drop from runs) (c.loop-i.i - from) (omega (arith, long, low, used)))) (c.loop-i.invariant.gave m is owns are)

pub returns-in-Err-clause-sound : goal.returns-in-Err-clause-sound
returns-in-Err-clause-sound g c m is owns are =
    let o = c.args.stream.now in
    let s = o.sizes in
    let v = c.args.bitmap.now in
    let i = c.loop-i.i in
    let from = c.args.from in
    let so_far = c.loop-i.invariant.gave m is owns are in
    let xs = blocks_of s (take (i - from) (drop from (used_runs (table_runs s (contents m) c.args.tables.array)))) in
    let told0 = g.E.Blocks.told c.loop-i.edits in
    let own = gave_owns o v c.loop-i.bitmap xs m told0 owns so_far c.loop-i.invariant.rest in
    let still = tables_stay o v c.loop-i.bitmap xs m told0 owns so_far c.loop-i.invariant.rest c.args.tables are in
    let below = c.loop-i-test.true in
    let used = still.2 in
    let one : 1 ≤ i + 1 = omega arith in
    let at = used_run (table_runs s (contents so_far.map) c.args.tables.array) i (omega (arith, below, used)) in
    c.in-Err.ensures.sound so_far.map so_far.is (has_tables o c.loop-i.bitmap c.args.tables.array so_far.map own still.0) at.0 at.1
    (all_at (IsWhole s) (used_runs (table_runs s (contents so_far.map) c.args.tables.array)) i at.0 (all_whole o c.loop-i.bitmap c.args.tables.array so_far.map own still.0) at.2)

pub returns-clause-stays : goal.returns-clause-stays
returns-clause-stays g c = c.loop-i.invariant.stays

pub returns-in-Err-clause-stays : goal.returns-in-Err-clause-stays
returns-in-Err-clause-stays g c k t = subst (λ (f : ℕ → Bool). f k ≡ true) (sym c.in-Err.ensures.changed) (c.loop-i.invariant.stays k t)

pub returns-in-Err-give-clause-stays : goal.returns-in-Err-give-clause-stays
returns-in-Err-give-clause-stays g c k t = c.in-Err-give.ensures.stays k (subst (λ (f : ℕ → Bool). f k ≡ true) (sym c.in-Ok.ensures.changed) (c.loop-i.invariant.stays k t))

pub returns-clause-bits : goal.returns-clause-bits
returns-clause-bits g c m is owns are k e =
    let s = c.args.stream.now.sizes in
    let runs = used_runs (table_runs s (contents m) c.args.tables.array) in
    let from = c.args.from in
    let low = c.loop-i-test.false in
    let used = are.2 in
    let long = length-drop runs from in
    subst (λ (l : List Run). (g.E.Blocks.changed c.args.edits.now k ≡ true) ⊎ HasBitIn c.args.bitmap.now (Has (blocks_of s l)) k) (take_all (drop from runs) (c.loop-i.i - from) (omega (arith, long, low, used))) (c.loop-i.invariant.bits m is owns are k e)
