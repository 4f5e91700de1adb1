use Rattle.std.proofs.Common.{◌≡◌, ◌+◌, ◌∙◌, ◌⊎◌, inl, inr, true, false, ℕ, Bool, List, Some, take, drop, refl, sym, ap, subst, arith}
use Rattle.std.specs.Prelude.{slice_get}
use Rattle.bfs_bytes.specs.declared.Run.{Run}
use Rattle.bfs_bitmap.specs.Runs.{Room}
use Rattle.bfs_bitmap.specs.Fills.{IsBitmapBlock}
use Rattle.bfs_stream.specs.Sizes.{IsInVolume}
use Rattle.bfs_stream.specs.Places.{blocks_of, used_runs, array_runs, run_blocks}
use Rattle.bfs_stream.specs.Told.{contents}
use Rattle.bfs_stream.specs.Grown.{IsOfVolume, HasBitIn}
use Rattle.bfs_stream.proofs.Arrays.{later_twice}
use Rattle.bfs_stream.proofs.Doubles.{all_at}
use Rattle.bfs_cuts.proofs.Bounds.{few_places}
use Rattle.bfs_cuts.proofs.Shorter.{used_some}
use Rattle.bfs_stream.proofs.Writes.{later_none}
use Rattle.bfs_cuts.proofs.Written.{bits_more}
use Rattle.bfs_cuts.proofs.Gives.{gave_none, gave_more}
use Rattle.bfs_cuts.proofs.Handed.{next_blocks, used_at_place, array_stays, array_told, gave_as}
use Rattle.bfs_base.specs.Lists.{Has}
use Rattle.bfs_cuts.proofs.drop.give_listed.Goals as goal

pub overflow_add-from : goal.overflow_add-from
overflow_add-from g c = let most = few_places c.args.stream.now.sizes c.args.array c.sizes.ensures.sizes c.requires.array in let room = c.requires.places in omega (arith, most, room)

bits_again : (v now : Room) (a b c : ℕ → Bool) → now ≡ record v { given = now.given; tally = now.tally } → ((k : ℕ) → b k ≡ true → (a k ≡ true) ⊎ IsBitmapBlock v k) → ((k : ℕ) → c k ≡ true → (b k ≡ true) ⊎ IsBitmapBlock now k) → (k : ℕ) → c k ≡ true → (a k ≡ true) ⊎ IsBitmapBlock v k
bits_again v now a b c rest one two k e = by_side (two k e)
  where
    by_side : (b k ≡ true) ⊎ IsBitmapBlock now k → (a k ≡ true) ⊎ IsBitmapBlock v k
    by_side (inl before) = one k before
    by_side (inr bits) = inr (subst (λ (x : Room). IsBitmapBlock x k) rest bits)

pub loop-i-init : goal.loop-i-init
loop-i-init g c = record {
  long = c.requires.length;
  size = refl;
  frame = refl;
  rest = refl;
  kept = refl;
  stands = refl;
  volume = c.requires.volume;
  later = later_none (g.E.Blocks.counts c.args.edits.now);
  changed = λ k e. inl e;
  gave = λ m is owns inside few. gave_none c.args.bitmap.now m (g.E.Blocks.told c.args.edits.now) owns.fits is;
  bits = λ m is owns inside few k e. inl e;
  stays = λ k t. t;
}

pub loop-i-preserved : goal.loop-i-preserved
loop-i-preserved g c =
    let o = c.args.stream.now in
    let s = o.sizes in
    let v = c.args.bitmap.now in
    let i = c.loop-i.i in
    let rest = c.in-Ok-give.ensures.rest ∙ ap (λ (x : Room). record x { given = c.give.new.bitmap.given; tally = c.give.new.bitmap.tally }) c.loop-i.invariant.rest in
    record {
      long = c.in-Ok.ensures.length;
      size = c.in-Ok-give.ensures.size ∙ c.in-Ok.ensures.size ∙ c.loop-i.invariant.size;
      frame = c.in-Ok-give.ensures.frame ∙ c.in-Ok.ensures.frame ∙ c.loop-i.invariant.frame;
      rest = rest;
      kept = c.in-Ok-give.ensures.kept ∙ c.loop-i.invariant.kept;
      stands = c.in-Ok-give.ensures.standing ∙ c.loop-i.invariant.stands;
      volume = subst (IsOfVolume s) (sym rest) (record { block_size = c.requires.volume.block_size; blocks = c.requires.volume.blocks; group_blocks = c.requires.volume.group_blocks });
      later = later_twice (g.E.Blocks.counts c.args.edits.now) (g.E.Blocks.counts c.run_in.new.under) (g.E.Blocks.counts c.give.new.edits)
          (later_twice (g.E.Blocks.counts c.args.edits.now) (g.E.Blocks.counts c.loop-i.edits) (g.E.Blocks.counts c.run_in.new.under) c.loop-i.invariant.later c.in-Ok.ensures.cause.later) c.in-Ok-give.ensures.cause.later;
      changed = bits_again v c.loop-i.bitmap (g.E.Blocks.changed c.args.edits.now) (g.E.Blocks.changed c.loop-i.edits) (g.E.Blocks.changed c.give.new.edits) c.loop-i.invariant.rest c.loop-i.invariant.changed
          (λ k e. subst (λ (f : ℕ → Bool). (f k ≡ true) ⊎ IsBitmapBlock c.loop-i.bitmap k) c.in-Ok.ensures.changed (c.in-Ok-give.ensures.changed k e));
      gave = λ m is owns inside few.
          let so_far = c.loop-i.invariant.gave m is owns inside few in
          let xs = blocks_of s (take i (drop c.args.from (used_runs (array_runs s (contents m) c.args.array)))) in
          let told0 = g.E.Blocks.told c.loop-i.edits in
          let low = c.loop-i-test.true in
          let found : slice_get (array_runs s (contents m) c.args.array) (c.args.from + i) ≡ Some c.in-Ok.run' =
          ap (λ (l : List Run). slice_get l (c.args.from + i)) (sym (array_stays o v c.loop-i.bitmap xs m told0 owns so_far c.loop-i.invariant.rest c.args.array inside))
          ∙ c.in-Ok.ensures.found so_far.map so_far.is (array_told o v c.loop-i.bitmap xs m told0 owns so_far c.loop-i.invariant.rest c.args.array inside) in
          let more = c.in-Ok-give.ensures.gave so_far.map (c.in-Ok.ensures.told ∙ so_far.is) so_far.fits in
          gave_as v c.give.new.bitmap _ _ m (g.E.Blocks.told c.give.new.edits) (sym (next_blocks s (array_runs s (contents m) c.args.array) c.args.from i (i + 1) c.in-Ok.run' (omega arith) (omega (arith, few, low)) found))
          (gave_more v c.loop-i.bitmap c.give.new.bitmap xs (run_blocks s c.in-Ok.run') m told0 (g.E.Blocks.told c.give.new.edits) so_far c.loop-i.invariant.rest more);
      bits = λ m is owns inside few.
          let so_far = c.loop-i.invariant.gave m is owns inside few in
          let xs = blocks_of s (take i (drop c.args.from (used_runs (array_runs s (contents m) c.args.array)))) in
          let told0 = g.E.Blocks.told c.loop-i.edits in
          let low = c.loop-i-test.true in
          let found : slice_get (array_runs s (contents m) c.args.array) (c.args.from + i) ≡ Some c.in-Ok.run' =
          ap (λ (l : List Run). slice_get l (c.args.from + i)) (sym (array_stays o v c.loop-i.bitmap xs m told0 owns so_far c.loop-i.invariant.rest c.args.array inside))
          ∙ c.in-Ok.ensures.found so_far.map so_far.is (array_told o v c.loop-i.bitmap xs m told0 owns so_far c.loop-i.invariant.rest c.args.array inside) in
          bits_more v c.loop-i.bitmap xs (run_blocks s c.in-Ok.run') _ (g.E.Blocks.changed c.args.edits.now) (g.E.Blocks.changed c.loop-i.edits) (g.E.Blocks.changed c.give.new.edits) c.loop-i.invariant.rest (sym (next_blocks s (array_runs s (contents m) c.args.array) c.args.from i (i + 1) c.in-Ok.run' (omega arith) (omega (arith, few, low)) found))
          (c.loop-i.invariant.bits m is owns inside few) (λ k e. subst (λ (f : ℕ → Bool). (f k ≡ true) ⊎ HasBitIn c.loop-i.bitmap (Has (run_blocks s c.in-Ok.run')) k) c.in-Ok.ensures.changed (c.in-Ok-give.ensures.bits k e));
      stays = λ k t. c.in-Ok-give.ensures.stays k (subst (λ (f : ℕ → Bool). f k ≡ true) (sym c.in-Ok.ensures.changed) (c.loop-i.invariant.stays k t));
    }

pub returns-clause-gave : goal.returns-clause-gave
returns-clause-gave g c m is owns inside few =
    let s = c.args.stream.now.sizes in
    let high = c.loop-i.auto.i-end in
    let low = c.loop-i-test.false in
    let end : c.loop-i.i ≡ c.args.count = omega (arith, high, low) in
    gave_as c.args.bitmap.now c.loop-i.bitmap _ _ m (g.E.Blocks.told c.loop-i.edits) (ap (λ (n : ℕ). blocks_of s (take n (drop c.args.from (used_runs (array_runs s (contents m) c.args.array))))) end) (c.loop-i.invariant.gave m is owns inside few)

pub returns-then-not-is_used-clause-sound : goal.returns-then-not-is_used-clause-sound
returns-then-not-is_used-clause-sound g c m is owns inside few all t =
    let o = c.args.stream.now in
    let s = o.sizes in
    let v = c.args.bitmap.now in
    let i = c.loop-i.i in
    let so_far = c.loop-i.invariant.gave m is owns inside few in
    let xs = blocks_of s (take i (drop c.args.from (used_runs (array_runs s (contents m) c.args.array)))) in
    let told0 = g.E.Blocks.told c.loop-i.edits in
    let low = c.loop-i-test.true in
    let found : slice_get (array_runs s (contents m) c.args.array) (c.args.from + i) ≡ Some c.in-Ok.run' =
    ap (λ (l : List Run). slice_get l (c.args.from + i)) (sym (array_stays o v c.loop-i.bitmap xs m told0 owns so_far c.loop-i.invariant.rest c.args.array inside))
    ∙ c.in-Ok.ensures.found so_far.map so_far.is (array_told o v c.loop-i.bitmap xs m told0 owns so_far c.loop-i.invariant.rest c.args.array inside) in
    let used = used_at_place (array_runs s (contents m) c.args.array) (c.args.from + i) c.in-Ok.run' (omega (arith, few, low)) found in
    let bad : false ≡ true = c.if-not-is_used.ensures.1 (used_some (array_runs s (contents m) c.args.array) (c.args.from + i) c.in-Ok.run' used, all_at (IsInVolume s) (used_runs (array_runs s (contents m) c.args.array)) (c.args.from + i) c.in-Ok.run' all used) in cc

pub returns-clause-stays : goal.returns-clause-stays
returns-clause-stays g c = c.loop-i.invariant.stays

pub returns-in-Err-clause-stays : goal.returns-in-Err-clause-stays
returns-in-Err-clause-stays g c k t = subst (λ (f : ℕ → Bool). f k ≡ true) (sym c.in-Err.ensures.changed) (c.loop-i.invariant.stays k t)

pub returns-in-Err-give-clause-stays : goal.returns-in-Err-give-clause-stays
returns-in-Err-give-clause-stays g c k t = c.in-Err-give.ensures.stays k (subst (λ (f : ℕ → Bool). f k ≡ true) (sym c.in-Ok.ensures.changed) (c.loop-i.invariant.stays k t))

pub returns-clause-bits : goal.returns-clause-bits
returns-clause-bits g c m is owns inside few k e =
    let s = c.args.stream.now.sizes in
    let high = c.loop-i.auto.i-end in
    let low = c.loop-i-test.false in
    let end : c.loop-i.i ≡ c.args.count = omega (arith, high, low) in
    subst (λ (n : ℕ). (g.E.Blocks.changed c.args.edits.now k ≡ true) ⊎ HasBitIn c.args.bitmap.now (Has (blocks_of s (take n (drop c.args.from (used_runs (array_runs s (contents m) c.args.array)))))) k) end (c.loop-i.invariant.bits m is owns inside few k e)
