use Rattle.std.proofs.Common.{◌≡◌, ◌≤◌, ◌<◌, ◌+◌, ◌-◌, ◌*◌, ◌∙◌, ◌⊎◌, ℕ, true, List, [], ◌∷◌, ◌++◌, Option, length, take, drop, refl, sym, ap, subst, arith}
use Rattle.std.specs.Prelude.{All, Result, Ok, Err, OnOk, IfOk, IsSome}
use Rattle.bfs_base.specs.Lists.{times, Has}
use Rattle.bfs_bytes.specs.declared.Run.{Run}
use Rattle.bfs_super.specs.Conditions.{natural}
use Rattle.bfs_txn.specs.declared.fault.BlockFault.{BlockFault}
use Rattle.bfs_bitmap.specs.Runs.{Room}
use Rattle.bfs_bitmap.specs.Fills.{IsBitmapBlock}
use Rattle.bfs_stream.specs.Sizes.{IsWhole, array_length}
use Rattle.bfs_stream.specs.Places.{Levels, fields, run_blocks, blocks_of, used_runs, array_runs, level_blocks, second_arrays, levels_at, frame_at, places_at}
use Rattle.bfs_stream.specs.Told.{contents}
use Rattle.bfs_stream.specs.Grown.{table_runs, HasBitIn}
use Rattle.bfs_stream.specs.Trimmed.{Gave}
use Rattle.bfs_stream.specs.declared.table.TheConstants.{NO_RUN}
use Rattle.bfs_stream.proofs.Placed.{told_inode, length-places}
use Rattle.bfs_stream.proofs.Doubles.{times-append}
use Rattle.bfs_stream.proofs.Listed.{double_long}
use Rattle.bfs_cuts.proofs.CutsBelow.{frame_has}
use Rattle.bfs_stream.proofs.Frames.{has_first, has_left, has_right}
use Rattle.bfs_stream.proofs.Writes.{wrote_bits, wrote_first, wrote_four, IsBitBlockOf, part_bits}
use Rattle.bfs_cuts.proofs.Gives.{gave_owns, gave_more, gave_frame}
use Rattle.bfs_cuts.proofs.Handed.{take_all, array_stays, inside_stays, gave_as}
use Rattle.bfs_cuts.proofs.Dropping.{double_dropped}
use Rattle.bfs_cuts.proofs.drop.drop_double.Goals as goal

on_ok : {P Q : Type 0} (r : Result (Unit {0}) BlockFault) → (P → Q) → OnOk r P → OnOk r Q
on_ok (Ok x) f p = f p
on_ok (Err x) f p = p

if_ok : {P Q : ℕ → Type 0} (r : Result ℕ BlockFault) → ((n : ℕ) → P n → Q n) → IfOk r P → IfOk r Q
if_ok (Ok x) f p = f x p
if_ok (Err x) f p = p

pub returns-clause-dropped : goal.returns-clause-dropped
unfolding level_blocks
returns-clause-dropped g c m is owns are may =
    let o = c.args.stream.now in
    let s = o.sizes in
    let t = c.args.tables in
    let v = c.args.bitmap.now in
    let b1 = c.give_below.new.bitmap in
    let b2 = c.give_listed.new.bitmap in
    let b3 = c.give.new.bitmap in
    let told1 = g.E.Blocks.told c.give_below.new.edits in
    let told2 = g.E.Blocks.told c.give_listed.new.edits in
    let told3 = g.E.Blocks.told c.give.new.edits in
    let told4 = g.E.Blocks.told c.put_no_double.new.edits in
    let l = levels_at s (contents m) o.id in
    let inside : (k : ℕ) → Has (run_blocks s t.array) k → Has (frame_at s (contents m) o.id) k = λ k has. frame_has o v t.array m owns are.0 k (let some : 0 < times k (run_blocks s t.array) = has in omega (arith, some)) in
    let runs_is : table_runs s (contents m) t.array ≡ l.runs = ap (λ (r : Run). table_runs s (contents m) r) are.0 in
    let arrays_is : array_runs s (contents m) t.array ≡ l.arrays = ap (array_runs s (contents m)) are.0 in
    let one : Gave v b1 (level_blocks s l.runs) m told1 = gave_as v b1 _ _ m told1 (ap (λ (x : List Run). blocks_of s (used_runs x)) runs_is) (c.in-Ok.ensures.gave m is owns are) in
    let rest1 = c.in-Ok.ensures.rest in
    let own1 = gave_owns o v b1 (level_blocks s l.runs) m told1 owns one rest1 in
    let inside1 = inside_stays o v b1 (level_blocks s l.runs) m told1 owns one rest1 t.array inside in
    let same1 = array_stays o v b1 (level_blocks s l.runs) m told1 owns one rest1 t.array inside in
    let long1 : t.listed ≡ length (used_runs (array_runs s (contents one.map) t.array)) = are.1 ∙ ap (λ (x : List Run). length (used_runs x)) (sym arrays_is) ∙ ap (λ (x : List Run). length (used_runs x)) (sym same1) in
    let whole : take t.listed (used_runs (array_runs s (contents one.map) t.array)) ≡ used_runs l.arrays = take_all (used_runs (array_runs s (contents one.map) t.array)) t.listed (omega (arith, long1)) ∙ ap used_runs (same1 ∙ arrays_is) in
    let two : Gave b1 b2 (blocks_of s (used_runs l.arrays)) one.map told2 = gave_as b1 b2 _ _ one.map told2 (ap (blocks_of s) whole) (c.in-Ok-give_listed.ensures.gave one.map one.is own1 inside1 (omega (arith, long1))) in
    let both = gave_more v b1 b2 (level_blocks s l.runs) (blocks_of s (used_runs l.arrays)) m told1 told2 one rest1 two in
    let rest2 = c.in-Ok-give_listed.ensures.rest ∙ ap (λ (x : Room). record x { given = b2.given; tally = b2.tally }) rest1 in
    let three = c.in-Ok-give.ensures.gave both.map both.is both.fits in
    let hand = (level_blocks s l.runs ++ blocks_of s (used_runs l.arrays)) ++ run_blocks s t.array in
    let all = gave_more v b2 b3 (level_blocks s l.runs ++ blocks_of s (used_runs l.arrays)) (run_blocks s t.array) m told2 told3 both rest2 three in
    let rest3 = c.in-Ok-give.ensures.rest ∙ ap (λ (x : Room). record x { given = b3.given; tally = b3.tally }) rest2 in
    let mine = has_first o.id [] in
    let inode_is : IsSome (all.map o.id) = subst (λ (x : Option (List ℕ)). IsSome x) (sym (gave_frame o v b3 hand m told3 owns all rest3 o.id (has_left (o.id ∷ []) _ o.id mine))) (told_inode m o owns.stands) in
    let c0 = g.E.Blocks.changed c.args.edits.now in
    let c1 = g.E.Blocks.changed c.give_below.new.edits in
    let c2 = g.E.Blocks.changed c.give_listed.new.edits in
    let c3 = g.E.Blocks.changed c.give.new.edits in
    let c4 = g.E.Blocks.changed c.put_no_double.new.edits in
    let used : t.used ≡ length (used_runs l.runs) = are.2 ∙ ap (λ (x : List Run). length (used_runs x)) runs_is in
    let own_long : length (level_blocks s l.runs) ≡ array_length s * t.used = double_long o m owns.stands ∙ ap (λ (n : ℕ). array_length s * n) (sym used) in
    let sum = length-places s (contents m) o.id in
    let size : natural (fields s (contents m) o.id).size ≤ s.block_size * (length (level_blocks s l.stream.direct) + length (level_blocks s l.table)) =
    subst (λ (n : ℕ). natural (fields s (contents m) o.id).size ≤ s.block_size * n) (let e : length (places_at s (contents m) o.id) - array_length s * t.used ≡ length (level_blocks s l.stream.direct) + length (level_blocks s l.table) = omega (arith, sum, own_long) in e) may in
    let hand_is : (k : ℕ) → times k hand ≡ times k (level_blocks s l.runs) + times k (blocks_of s (used_runs l.arrays) ++ run_blocks s l.stream.double_indirect) = λ k.
    let a = times-append k (level_blocks s l.runs ++ blocks_of s (used_runs l.arrays)) (run_blocks s t.array) in
    let b = times-append k (level_blocks s l.runs) (blocks_of s (used_runs l.arrays)) in
    let d = times-append k (blocks_of s (used_runs l.arrays)) (run_blocks s l.stream.double_indirect) in
    let e : times k (run_blocks s t.array) ≡ times k (run_blocks s l.stream.double_indirect) = ap (λ (r : Run). times k (run_blocks s r)) are.0 in
    omega (arith, a, b, d, e) in
    on_ok c.put_no_double.result
    (λ wrote.
    let done =
    double_dropped o v b3 hand m told3 owns all rest3 NO_RUN refl told4 wrote hand_is size c0 c4
    (wrote_four (IsBitBlockOf v hand) c0 c1 c2 c3 c4 (o.id ∷ []) (wrote_bits (IsBitBlockOf v hand) c0 c1 (o.id ∷ [])
    (part_bits v (blocks_of s (drop 0 (used_runs (table_runs s (contents m) t.array)))) hand c0 c1 (λ k has. has_left (level_blocks s l.runs ++ blocks_of s (used_runs l.arrays)) (run_blocks s t.array) k (has_left (level_blocks s l.runs) (blocks_of s (used_runs l.arrays)) k (subst (λ (x : List Run). Has (blocks_of s (used_runs x)) k) runs_is has))) c.in-Ok.ensures.changed (c.in-Ok.ensures.bits m is owns are)))
    (wrote_bits (IsBitBlockOf v hand) c1 c2 (o.id ∷ [])
    (part_bits v (blocks_of s (take t.listed (drop 0 (used_runs (array_runs s (contents one.map) t.array))))) hand c1 c2 (λ k has. has_left (level_blocks s l.runs ++ blocks_of s (used_runs l.arrays)) (run_blocks s t.array) k (has_right (level_blocks s l.runs) (blocks_of s (used_runs l.arrays)) k (subst (λ (x : List ℕ). Has x k) (ap (blocks_of s) whole) has))) (λ k e. subst (λ (x : Room). (c1 k ≡ true) ⊎ IsBitmapBlock x k) rest1 (c.in-Ok-give_listed.ensures.changed k e))
    (λ k e. subst (λ (x : Room). (c1 k ≡ true) ⊎ HasBitIn x (Has (blocks_of s (take t.listed (drop 0 (used_runs (array_runs s (contents one.map) t.array)))))) k) rest1 (c.in-Ok-give_listed.ensures.bits one.map one.is own1 inside1 (omega (arith, long1)) k e))))
    (wrote_bits (IsBitBlockOf v hand) c2 c3 (o.id ∷ [])
    (part_bits v (run_blocks s t.array) hand c2 c3 (λ k has. has_right (level_blocks s l.runs ++ blocks_of s (used_runs l.arrays)) (run_blocks s t.array) k has) (λ k e. subst (λ (x : Room). (c2 k ≡ true) ⊎ IsBitmapBlock x k) rest2 (c.in-Ok-give.ensures.changed k e))
    (λ k e. subst (λ (x : Room). (c2 k ≡ true) ⊎ HasBitIn x (Has (run_blocks s t.array)) k) rest2 (c.in-Ok-give.ensures.bits k e))))
    (wrote_first (IsBitBlockOf v hand) c3 c4 o.id [] c.put_no_double.ensures.written)) in
    (((level_blocks s l.runs, own_long, done.0), λ k has. subst (λ (x : List ℕ). Has x k) done.1 has), ap (λ (x : Levels). x.stream.double_indirect.len) done.2))
    (c.put_no_double.ensures.put all.map all.is inode_is)

pub returns-in-Err-give_listed-clause-sound : goal.returns-in-Err-give_listed-clause-sound
returns-in-Err-give_listed-clause-sound g c m is owns are =
    let o = c.args.stream.now in
    let s = o.sizes in
    let t = c.args.tables in
    let v = c.args.bitmap.now in
    let b1 = c.give_below.new.bitmap in
    let told1 = g.E.Blocks.told c.give_below.new.edits in
    let l = levels_at s (contents m) o.id in
    let inside : (k : ℕ) → Has (run_blocks s t.array) k → Has (frame_at s (contents m) o.id) k = λ k has. frame_has o v t.array m owns are.0 k (let some : 0 < times k (run_blocks s t.array) = has in omega (arith, some)) in
    let arrays_is : array_runs s (contents m) t.array ≡ l.arrays = ap (array_runs s (contents m)) are.0 in
    let one = c.in-Ok.ensures.gave m is owns are in
    let rest1 = c.in-Ok.ensures.rest in
    let xs = blocks_of s (drop 0 (used_runs (table_runs s (contents m) t.array))) in
    let own1 = gave_owns o v b1 xs m told1 owns one rest1 in
    let inside1 = inside_stays o v b1 xs m told1 owns one rest1 t.array inside in
    let same1 = array_stays o v b1 xs m told1 owns one rest1 t.array inside in
    let listed_is : t.listed ≡ length (second_arrays s (contents m) o.id) = are.1 in
    let long1 : length (used_runs (array_runs s (contents one.map) t.array)) ≡ t.listed = ap (λ (x : List Run). length (used_runs x)) (same1 ∙ arrays_is) ∙ sym listed_is in
    c.in-Err-give_listed.ensures.sound one.map one.is own1 inside1 (omega (arith, long1))
    (λ i d h. (subst (λ (x : List Run). All (IsWhole s) (used_runs x)) (sym (same1 ∙ arrays_is)) owns.stands.sound.arrays i d h).inside)
