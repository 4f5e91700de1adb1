use Rattle.std.proofs.Common.{drop, ◌≡◌, ◌≤◌, ◌+◌, ◌-◌, ◌*◌, ◌∙◌, ◌⊎◌, ℕ, true, List, [], ◌∷◌, ◌++◌, Option, length, take, refl, sym, ap, subst, arith}
use Rattle.std.specs.Prelude.{All, Result, Ok, Err, OnOk, IfOk, IsSome}
use Rattle.bfs_base.specs.Lists.{times, Has}
use Rattle.bfs_bytes.specs.declared.Run.{Run}
use Rattle.bfs_super.specs.Conditions.{natural}
use Rattle.bfs_txn.specs.declared.fault.BlockFault.{BlockFault}
use Rattle.bfs_bitmap.specs.Runs.{Room}
use Rattle.bfs_bitmap.specs.Fills.{IsBitmapBlock}
use Rattle.bfs_stream.specs.Sizes.{IsInVolume}
use Rattle.bfs_stream.specs.Places.{Levels, fields, run_blocks, blocks_of, used_runs, array_runs, level_blocks, levels_at, frame_at, places_at}
use Rattle.bfs_stream.specs.Told.{contents}
use Rattle.bfs_stream.specs.Trimmed.{Gave}
use Rattle.bfs_stream.specs.declared.table.TheConstants.{NO_RUN}
use Rattle.bfs_stream.proofs.Placed.{told_inode, length-places}
use Rattle.bfs_stream.proofs.Doubles.{times-append}
use Rattle.bfs_stream.proofs.Seconds.{nothing_second}
use Rattle.bfs_stream.proofs.Frames.{has_first, has_left, has_rest, has_right}
use Rattle.bfs_stream.proofs.Apart.{in_arrays}
use Rattle.bfs_stream.proofs.Writes.{wrote_none, wrote_bits, wrote_first, wrote_four, IsBitBlockOf, part_bits}
use Rattle.bfs_cuts.proofs.Gives.{gave_more, gave_frame}
use Rattle.bfs_cuts.proofs.Handed.{take_all, gave_as}
use Rattle.bfs_cuts.proofs.Dropping.{indirect_dropped}
use Rattle.bfs_stream.specs.Grown.{HasBitIn}
use Rattle.bfs_cuts.proofs.drop.drop_indirect.Goals as goal

on_ok : {P Q : Type 0} (r : Result (Unit {0}) BlockFault) → (P → Q) → OnOk r P → OnOk r Q
on_ok (Ok x) f p = f p
on_ok (Err x) f p = p

if_ok : {P Q : ℕ → Type 0} (r : Result ℕ BlockFault) → ((n : ℕ) → P n → Q n) → IfOk r P → IfOk r Q
if_ok (Ok x) f p = f x p
if_ok (Err x) f p = p

pub returns-clause-dropped : goal.returns-clause-dropped
unfolding level_blocks
returns-clause-dropped g c m is owns are none may =
    let o = c.args.stream.now in
    let s = o.sizes in
    let t = c.args.table in
    let v = c.args.bitmap.now in
    let b1 = c.give_listed.new.bitmap in
    let b2 = c.give.new.bitmap in
    let told1 = g.E.Blocks.told c.give_listed.new.edits in
    let told2 = g.E.Blocks.told c.give.new.edits in
    let told3 = g.E.Blocks.told c.put_no_indirect.new.edits in
    let l = levels_at s (contents m) o.id in
    let inside : (k : ℕ) → Has (run_blocks s t.array) k → Has (frame_at s (contents m) o.id) k = λ k has. has_rest o.id _ k (in_arrays o v m owns k (subst (λ (r : Run). Has (run_blocks s r) k) are.0 has)) in
    let table_is : array_runs s (contents m) t.array ≡ l.table = ap (array_runs s (contents m)) are.0 in
    let whole : take t.used (used_runs (array_runs s (contents m) t.array)) ≡ used_runs l.table = take_all (used_runs (array_runs s (contents m) t.array)) t.used (let e = are.1 in omega (arith, e)) ∙ ap used_runs table_is in
    let one : Gave v b1 (level_blocks s l.table) m told1 = gave_as v b1 _ _ m told1 (ap (blocks_of s) whole) (c.in-Ok.ensures.gave m is owns inside (let e = are.1 in omega (arith, e))) in
    let rest1 = c.in-Ok.ensures.rest in
    let two = c.in-Ok-give.ensures.gave one.map one.is one.fits in
    let hand = level_blocks s l.table ++ run_blocks s t.array in
    let all = gave_more v b1 b2 (level_blocks s l.table) (run_blocks s t.array) m told1 told2 one rest1 two in
    let rest2 = c.in-Ok-give.ensures.rest ∙ ap (λ (x : Room). record x { given = b2.given; tally = b2.tally }) rest1 in
    let mine = has_first o.id [] in
    let inode_is : IsSome (all.map o.id) = subst (λ (x : Option (List ℕ)). IsSome x) (sym (gave_frame o v b2 hand m told2 owns all rest2 o.id (has_left (o.id ∷ []) _ o.id mine))) (told_inode m o owns.stands) in
    let c0 = g.E.Blocks.changed c.args.edits.now in
    let c1 = g.E.Blocks.changed c.give_listed.new.edits in
    let c2 = g.E.Blocks.changed c.give.new.edits in
    let c3 = g.E.Blocks.changed c.put_no_indirect.new.edits in
    let sum = length-places s (contents m) o.id in
    let behind : length (level_blocks s l.runs) ≡ 0 = ap length (nothing_second o m none) in
    let size : natural (fields s (contents m) o.id).size ≤ s.block_size * length (level_blocks s l.stream.direct) =
    subst (λ (n : ℕ). natural (fields s (contents m) o.id).size ≤ s.block_size * n) (let e : length (places_at s (contents m) o.id) - length (level_blocks s l.table) ≡ length (level_blocks s l.stream.direct) = omega (arith, sum, behind) in e) may in
    let hand_is : (k : ℕ) → times k hand ≡ times k (level_blocks s l.table) + times k (run_blocks s l.stream.indirect) = λ k.
    times-append k (level_blocks s l.table) (run_blocks s t.array) ∙ ap (λ (r : Run). times k (level_blocks s l.table) + times k (run_blocks s r)) are.0 in
    on_ok c.put_no_indirect.result
    (λ wrote.
    let done =
    indirect_dropped o v b2 hand m told2 owns all rest2 NO_RUN refl told3 wrote none hand_is size c0 c3
    (wrote_four (IsBitBlockOf v hand) c0 c0 c1 c2 c3 (o.id ∷ []) (wrote_none (IsBitBlockOf v hand) c0 c0 (o.id ∷ []) refl) (wrote_bits (IsBitBlockOf v hand) c0 c1 (o.id ∷ [])
    (part_bits v (blocks_of s (take t.used (drop 0 (used_runs (array_runs s (contents m) t.array))))) hand c0 c1 (λ k has. has_left (level_blocks s l.table) (run_blocks s t.array) k (subst (λ (x : List ℕ). Has x k) (ap (blocks_of s) whole) has)) c.in-Ok.ensures.changed (c.in-Ok.ensures.bits m is owns inside (let e = are.1 in omega (arith, e)))))
    (wrote_bits (IsBitBlockOf v hand) c1 c2 (o.id ∷ [])
    (part_bits v (run_blocks s t.array) hand c1 c2 (λ k has. has_right (level_blocks s l.table) (run_blocks s t.array) k has) (λ k e. subst (λ (x : Room). (c1 k ≡ true) ⊎ IsBitmapBlock x k) rest1 (c.in-Ok-give.ensures.changed k e))
    (λ k e. subst (λ (x : Room). (c1 k ≡ true) ⊎ HasBitIn x (Has (run_blocks s t.array)) k) rest1 (c.in-Ok-give.ensures.bits k e))))
    (wrote_first (IsBitBlockOf v hand) c2 c3 o.id [] c.put_no_indirect.ensures.written)) in
    (((level_blocks s l.table, refl, done.0), λ k has. subst (λ (x : List ℕ). Has x k) done.1 has), (ap (λ (x : Levels). x.stream.indirect.len) done.2, ap (λ (x : Levels). x.stream.double_indirect.len) done.2 ∙ none)))
    (c.put_no_indirect.ensures.put all.map all.is inode_is)

pub returns-in-Err-clause-sound : goal.returns-in-Err-clause-sound
returns-in-Err-clause-sound g c m is owns are =
    let o = c.args.stream.now in
    let s = o.sizes in
    let t = c.args.table in
    let l = levels_at s (contents m) o.id in
    let inside : (k : ℕ) → Has (run_blocks s t.array) k → Has (frame_at s (contents m) o.id) k = λ k has. has_rest o.id _ k (in_arrays o c.args.bitmap.now m owns k (subst (λ (r : Run). Has (run_blocks s r) k) are.0 has)) in
    let table_is : array_runs s (contents m) t.array ≡ l.table = ap (array_runs s (contents m)) are.0 in
    c.in-Err.ensures.sound m is owns inside (let e = are.1 in omega (arith, e)) (subst (λ (x : List Run). All (IsInVolume s) (used_runs x)) (sym table_is) owns.stands.sound.in_indirect)
