use Rattle.std.proofs.Common.{◌≡◌, ◌*◌, ℕ, length, subst, sym, arith}
use Rattle.bfs_bitmap_check.specs.Bitmaps.{IsBitmapTold, AreSameIn, IsFirstIn}
use Rattle.bfs_bitmap_check.proofs.Marked.{block_bytes, bitmap_told, marked_all, marks_list, wrong_bit, mark_fault}
use Rattle.bfs_bitmap_check.proofs.volume.check_bitmap.Goals as goal

pub compare_all-requires-clause-few : goal.compare_all-requires-clause-few
compare_all-requires-clause-few g c =
    let a = c.deref_mut.ensures.len in
    let b = c.in-Ok.ensures.len in
    let most = (block_bytes c.args.sup.now c.requires.valid).1 in
    omega (arith, a, b, most)

pub returns-in-Ok-compare_all-clause-marked : goal.returns-in-Ok-compare_all-clause-marked
returns-in-Ok-compare_all-clause-marked g c m is all =
    let s = c.args.sup.now in
    let claims = c.args.claims.now in
    let long : length c.deref_mut.result.now ≡ s.block_size = (let a = c.deref_mut.ensures.len in let b = c.in-Ok.ensures.len in omega (arith, a, b)) in
    let told : IsBitmapTold (8 * s.block_size) m claims.blocks = bitmap_told s m claims.blocks c.requires.valid c.requires.blocks all in
    marked_all s m claims c.requires.blocks c.in-Ok-compare_all.ensures.inside
    (subst (λ (n : ℕ). AreSameIn (8 * n) m claims 0 claims.blocks) long (c.in-Ok-compare_all.ensures.same m is (subst (λ (n : ℕ). IsBitmapTold (8 * n) m claims.blocks) (sym long) told)))

pub returns-in-Ok-compare_all-clause-marks : goal.returns-in-Ok-compare_all-clause-marks
returns-in-Ok-compare_all-clause-marks g c m is all =
    let s = c.args.sup.now in
    let claims = c.args.claims.now in
    let long : length c.deref_mut.result.now ≡ s.block_size = (let a = c.deref_mut.ensures.len in let b = c.in-Ok.ensures.len in omega (arith, a, b)) in
    let told : IsBitmapTold (8 * s.block_size) m claims.blocks = bitmap_told s m claims.blocks c.requires.valid c.requires.blocks all in
    marks_list s m claims c.requires.blocks c.in-Ok-compare_all.ensures.inside
    (subst (λ (n : ℕ). AreSameIn (8 * n) m claims 0 claims.blocks) long (c.in-Ok-compare_all.ensures.same m is (subst (λ (n : ℕ). IsBitmapTold (8 * n) m claims.blocks) (sym long) told)))

pub returns-clause-wrong : goal.returns-clause-wrong
returns-clause-wrong g c m is all =
    let s = c.args.sup.now in
    let claims = c.args.claims.now in
    let long : length c.deref_mut.result.now ≡ s.block_size = (let a = c.deref_mut.ensures.len in let b = c.in-Ok.ensures.len in omega (arith, a, b)) in
    let told : IsBitmapTold (8 * s.block_size) m claims.blocks = bitmap_told s m claims.blocks c.requires.valid c.requires.blocks all in
    wrong_bit s m claims c.requires.blocks c.in-Err-compare_all.ensures.inside c.in-Err-compare_all.fault
    (subst (λ (n : ℕ). IsFirstIn (8 * n) m claims 0 c.in-Err-compare_all.fault) long (c.in-Err-compare_all.ensures.wrong m is (subst (λ (n : ℕ). IsBitmapTold (8 * n) m claims.blocks) (sym long) told)))

pub returns-clause-found : goal.returns-clause-found
returns-clause-found g c m is all =
    let s = c.args.sup.now in
    let claims = c.args.claims.now in
    let long : length c.deref_mut.result.now ≡ s.block_size = (let a = c.deref_mut.ensures.len in let b = c.in-Ok.ensures.len in omega (arith, a, b)) in
    let told : IsBitmapTold (8 * s.block_size) m claims.blocks = bitmap_told s m claims.blocks c.requires.valid c.requires.blocks all in
    mark_fault s m claims c.requires.blocks c.in-Err-compare_all.ensures.inside c.in-Err-compare_all.fault
    (subst (λ (n : ℕ). IsFirstIn (8 * n) m claims 0 c.in-Err-compare_all.fault) long (c.in-Err-compare_all.ensures.wrong m is (subst (λ (n : ℕ). IsBitmapTold (8 * n) m claims.blocks) (sym long) told)))
