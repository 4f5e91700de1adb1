use Rattle.std.proofs.Common.{◌≡◌, ◌<◌, ◌+◌, ◌-◌, ◌*◌, ◌∙◌, ◌⊎◌, ℕ, true, List, ◌∷◌, ◌++◌, length, take, drop, refl, sym, ap, subst, arith}
use Rattle.std.specs.Prelude.{All, Result, Ok, Err, OnOk, IfOk}
use Rattle.bfs_base.specs.Lists.{times, Has}
use Rattle.bfs_bytes.specs.declared.Run.{Run}
use Rattle.bfs_txn.specs.declared.fault.BlockFault.{BlockFault}
use Rattle.bfs_bitmap.specs.Runs.{Room}
use Rattle.bfs_bitmap.specs.Fills.{IsBitmapBlock}
use Rattle.bfs_stream.specs.Sizes.{IsWhole, array_length, runs_per_block}
use Rattle.bfs_stream.specs.Places.{run_blocks, blocks_of, used_runs, array_runs, level_blocks, second_arrays, levels_at, frame_at}
use Rattle.bfs_stream.specs.Told.{contents, AreTold}
use Rattle.bfs_stream.specs.Grown.{table_runs, HasBitIn}
use Rattle.bfs_stream.specs.Trimmed.{Gave}
use Rattle.bfs_stream.specs.declared.table.TheConstants.{NO_RUN}
use Rattle.bfs_stream.proofs.Doubles.{times-append}
use Rattle.bfs_cuts.proofs.CutsBelow.{frame_has}
use Rattle.bfs_stream.proofs.Writes.{wrote_bits, wrote_first, wrote_behind, wrote_four, IsBitBlockOf, part_bits}
use Rattle.bfs_cuts.proofs.Gives.{gave_owns, gave_more}
use Rattle.bfs_cuts.proofs.Handed.{take_all, array_stays, array_told, inside_stays, gave_as, length-drop}
use Rattle.bfs_cuts.proofs.Dropping.{tables_dropped, inode_put_told}
use Rattle.bfs_cuts.proofs.Lasts.{gone_long, reach_is, size_is, spare_is}
use Rattle.bfs_stream.proofs.Frames.{has_left, has_right}
use Rattle.bfs_cuts.proofs.drop.drop_tables.Goals as goal

on_ok : {P Q : Type 0} (r : Result (Unit {0}) BlockFault) → (P → Q) → OnOk r P → OnOk r Q
on_ok (Ok x) f p = f p
on_ok (Err x) f p = p

if_ok : {P Q : ℕ → Type 0} (r : Result ℕ BlockFault) → ((n : ℕ) → P n → Q n) → IfOk r P → IfOk r Q
if_ok (Ok x) f p = f x p
if_ok (Err x) f p = p

pub returns-in-Ok-put_double_range-clause-trimmed : goal.returns-in-Ok-put_double_range-clause-trimmed
unfolding level_blocks
returns-in-Ok-put_double_range-clause-trimmed g c m is owns are most may few spare =
    let o = c.args.stream.now in
    let s = o.sizes in
    let t = c.args.tables in
    let keep = c.args.keep in
    let v = c.args.bitmap.now in
    let b1 = c.give_below.new.bitmap in
    let b2 = c.give_listed.new.bitmap in
    let told1 = g.E.Blocks.told c.give_below.new.edits in
    let told2 = g.E.Blocks.told c.give_listed.new.edits in
    let told3 = g.E.Blocks.told c.put_in_array.new.edits in
    let told4 = g.E.Blocks.told c.put_double_range.new.edits in
    let l = levels_at s (contents m) o.id in
    let n = c.table_length.result * c.args.keep in
    let inside : (k : ℕ) → Has (run_blocks s t.array) k → Has (frame_at s (contents m) o.id) k = λ k has. frame_has o v t.array m owns are.0 k (let some : 0 < times k (run_blocks s t.array) = has in omega (arith, some)) in
    let runs_is : table_runs s (contents m) t.array ≡ l.runs = ap (λ (r : Run). table_runs s (contents m) r) are.0 in
    let arrays_is : array_runs s (contents m) t.array ≡ l.arrays = ap (array_runs s (contents m)) are.0 in
    let runs_gone = blocks_of s (drop n (used_runs l.runs)) in
    let tables_gone = blocks_of s (drop keep (second_arrays s (contents m) o.id)) in
    let one : Gave v b1 runs_gone m told1 = gave_as v b1 _ _ m told1 (ap (λ (x : List Run). blocks_of s (drop n (used_runs x))) runs_is) (c.in-Ok.ensures.gave m is owns are) in
    let rest1 = c.in-Ok.ensures.rest in
    let own1 = gave_owns o v b1 runs_gone m told1 owns one rest1 in
    let inside1 = inside_stays o v b1 runs_gone m told1 owns one rest1 t.array inside in
    let same1 = array_stays o v b1 runs_gone m told1 owns one rest1 t.array inside in
    let listed_is : t.listed ≡ length (second_arrays s (contents m) o.id) = are.1 in
    let long1 : length (used_runs (array_runs s (contents one.map) t.array)) ≡ t.listed = ap (λ (x : List Run). length (used_runs x)) (same1 ∙ arrays_is) ∙ sym listed_is in
    let below = c.requires.keep.1 in
    let count : length (drop keep (used_runs (array_runs s (contents one.map) t.array))) ≡ t.listed - keep = length-drop (used_runs (array_runs s (contents one.map) t.array)) keep ∙ ap (λ (x : ℕ). x - keep) long1 in
    let whole : take (t.listed - keep) (drop keep (used_runs (array_runs s (contents one.map) t.array))) ≡ drop keep (second_arrays s (contents m) o.id) =
    take_all (drop keep (used_runs (array_runs s (contents one.map) t.array))) (t.listed - keep) (omega (arith, count)) ∙ ap (λ (x : List Run). drop keep (used_runs x)) (same1 ∙ arrays_is) in
    let two : Gave b1 b2 tables_gone one.map told2 = gave_as b1 b2 _ _ one.map told2 (ap (blocks_of s) whole) (c.in-Ok-give_listed.ensures.gave one.map one.is own1 inside1 (omega (arith, long1, below))) in
    let all = gave_more v b1 b2 runs_gone tables_gone m told1 told2 one rest1 two in
    let rest2 = c.in-Ok-give_listed.ensures.rest ∙ ap (λ (x : Room). record x { given = b2.given; tally = b2.tally }) rest1 in
    let hand = runs_gone ++ tables_gone in
    let told_array : AreTold all.map (run_blocks s t.array) = array_told o v b2 hand m told2 owns all rest2 t.array inside in
    let put = c.in-Ok-put_in_array.ensures.put all.map all.is told_array in
    let n_is : n ≡ array_length s * runs_per_block s * keep = ap (λ (x : ℕ). x * keep) c.table_length.ensures.value in
    let hand_is : (k : ℕ) → times k hand ≡ times k runs_gone + times k tables_gone = λ k. times-append k runs_gone tables_gone in
    let fewer : keep < length (second_arrays s (contents m) o.id) = omega (arith, below, listed_is) in
    let reach = c.less-2.result in
    let used : t.used ≡ length (used_runs l.runs) = are.2 ∙ ap (λ (x : List Run). length (used_runs x)) runs_is in
    let gone_is : (c.array_length.result * c.less.result) ≡ array_length s * (t.used - n) = ap (λ (x : ℕ). x * c.less.result) c.array_length.ensures.value ∙ ap (λ (x : ℕ). array_length s * x) c.less.ensures in
    let taken = c.array_length.result * c.less.result in
    let reach_end = reach_is o v m owns t.used n keep most used fewer n_is few spare reach t.blocks taken are.3 gone_is c.less-2.ensures in
    let wrote = c.in-Ok-put_double_range.ensures.put put.map put.is (inode_put_told o v b2 hand m told2 owns all rest2 NO_RUN refl told3 t.array are.0 keep put) in
    let size = size_is o v m owns t.used n keep most used fewer n_is few spare may in
    let c0 = g.E.Blocks.changed c.args.edits.now in
    let c1 = g.E.Blocks.changed c.give_below.new.edits in
    let c2 = g.E.Blocks.changed c.give_listed.new.edits in
    let c3 = g.E.Blocks.changed c.put_in_array.new.edits in
    let c4 = g.E.Blocks.changed c.put_double_range.new.edits in
    let ws : List ℕ = o.id ∷ run_blocks s t.array in
    let done = tables_dropped o v b2 hand m told2 owns all rest2 NO_RUN refl told3 told4 t.array are.0 keep n reach fewer put wrote n_is hand_is reach_end size c0 c4
    (wrote_four (IsBitBlockOf v hand) c0 c1 c2 c3 c4 ws (wrote_bits (IsBitBlockOf v hand) c0 c1 ws
    (part_bits v (blocks_of s (drop n (used_runs (table_runs s (contents m) t.array)))) hand c0 c1 (λ k has. has_left runs_gone tables_gone k (subst (λ (x : List Run). Has (blocks_of s (drop n (used_runs x))) k) runs_is has)) c.in-Ok.ensures.changed (c.in-Ok.ensures.bits m is owns are)))
    (wrote_bits (IsBitBlockOf v hand) c1 c2 ws
    (part_bits v (blocks_of s (take (t.listed - keep) (drop keep (used_runs (array_runs s (contents one.map) t.array))))) hand c1 c2 (λ k has. has_right runs_gone tables_gone k (subst (λ (x : List ℕ). Has x k) (ap (blocks_of s) whole) has)) (λ k e. subst (λ (x : Room). (c1 k ≡ true) ⊎ IsBitmapBlock x k) rest1 (c.in-Ok-give_listed.ensures.changed k e))
    (λ k e. subst (λ (x : Room). (c1 k ≡ true) ⊎ HasBitIn x (Has (blocks_of s (take (t.listed - keep) (drop keep (used_runs (array_runs s (contents one.map) t.array)))))) k) rest1 (c.in-Ok-give_listed.ensures.bits one.map one.is own1 inside1 (omega (arith, long1, below)) k e))))
    (wrote_behind (IsBitBlockOf v hand) c2 c3 o.id (run_blocks s t.array) c.in-Ok-put_in_array.ensures.written)
    (wrote_first (IsBitBlockOf v hand) c3 c4 o.id (run_blocks s t.array) c.in-Ok-put_double_range.ensures.written)) in (
      (runs_gone, gone_long o v m owns t.used n keep most used fewer n_is few spare ∙ sym gone_is, done.0),
      spare_is o v m owns t.used n keep most used fewer n_is few spare b2 told4 c0 c4 done.0 NO_RUN _ reach taken refl done.2 gone_is,
    )

pub returns-in-Err-give_listed-clause-sound : goal.returns-in-Err-give_listed-clause-sound
returns-in-Err-give_listed-clause-sound g c m is owns are =
    let o = c.args.stream.now in
    let s = o.sizes in
    let t = c.args.tables in
    let keep = c.args.keep in
    let v = c.args.bitmap.now in
    let b1 = c.give_below.new.bitmap in
    let told1 = g.E.Blocks.told c.give_below.new.edits in
    let l = levels_at s (contents m) o.id in
    let inside : (k : ℕ) → Has (run_blocks s t.array) k → Has (frame_at s (contents m) o.id) k = λ k has. frame_has o v t.array m owns are.0 k (let some : 0 < times k (run_blocks s t.array) = has in omega (arith, some)) in
    let arrays_is : array_runs s (contents m) t.array ≡ l.arrays = ap (array_runs s (contents m)) are.0 in
    let one = c.in-Ok.ensures.gave m is owns are in
    let rest1 = c.in-Ok.ensures.rest in
    let xs = blocks_of s (drop (c.table_length.result * c.args.keep) (used_runs (table_runs s (contents m) t.array))) in
    let own1 = gave_owns o v b1 xs m told1 owns one rest1 in
    let inside1 = inside_stays o v b1 xs m told1 owns one rest1 t.array inside in
    let same1 = array_stays o v b1 xs m told1 owns one rest1 t.array inside in
    let listed_is : t.listed ≡ length (second_arrays s (contents m) o.id) = are.1 in
    let long1 : length (used_runs (array_runs s (contents one.map) t.array)) ≡ t.listed = ap (λ (x : List Run). length (used_runs x)) (same1 ∙ arrays_is) ∙ sym listed_is in
    let below = c.requires.keep.1 in
    c.in-Err-give_listed.ensures.sound one.map one.is own1 inside1 (omega (arith, long1, below))
    (λ i d h. (subst (λ (x : List Run). All (IsWhole s) (used_runs x)) (sym (same1 ∙ arrays_is)) owns.stands.sound.arrays i d h).inside)
