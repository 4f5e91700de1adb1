use Rattle.std.proofs.Common.{◌≡◌, ◌≤◌, ◌<◌, ◌+◌, ℕ, List, Option, Some, suc, sym, ap, ◌∙◌, subst, arith}
use Rattle.std.specs.Prelude.{IfSome}
use Rattle.bfs_super.specs.Conditions.{ceil}
use Rattle.bfs_smalldata.specs.Items.{Item, items_of, sizes_of}
use Rattle.bfs_rename.specs.Moving.{IsTakenFrom, count_in}
use Rattle.bfs_rename.proofs.Shrinking.{IsOnMove, goes, never_none, is_done, fills_few, went}
use Rattle.bfs_rename.proofs.moves.make_room.Goals as goal

pub returns-in-None-clause-moving : goal.returns-in-None-clause-moving
returns-in-None-clause-moving c items is plain =
    let l = c.loop-alloc in
    let p = l.invariant.moves items is plain in
    let used : c.used_bytes.result ≡ sizes_of p.left = subst (λ (o : Option (List Item)). IfSome o (λ xs. c.used_bytes.result ≡ sizes_of xs)) p.is c.used_bytes.ensures in
    let long : c.args.room < sizes_of p.left = subst (λ (k : ℕ). c.args.room < k) used c.loop-alloc-test.true in
    let taken = subst (λ (o : Option (List Item)). IfSome o (λ xs. IsTakenFrom xs (items_of c.take_longest.new.area) c.in-Ok.taken)) p.is c.in-Ok.ensures.taken in
    let none = subst (IsTakenFrom p.left (items_of c.take_longest.new.area)) c.in-None.is taken in
    absurd (never_none c.args.block_size c.args.room items l.area l.count l.blocks p long none.0)

pub loop-alloc-smaller : goal.loop-alloc-smaller
loop-alloc-smaller c =
    let l = c.loop-alloc in
    let taken = subst (λ (t : Option ℕ). IfSome (items_of l.area) (λ xs. IsTakenFrom xs (items_of c.take_longest.new.area) t)) c.in-Some.is c.in-Ok.ensures.taken in
    let less : count_in l.area ≡ suc (count_in c.take_longest.new.area) = (went l.area c.take_longest.new.area c.in-Some.length l.invariant.some taken).1 in
    let smaller : count_in c.take_longest.new.area < count_in l.area = omega (arith, less) in
    smaller

pub loop-alloc-preserved : goal.loop-alloc-preserved
loop-alloc-preserved c =
    let l = c.loop-alloc in
    let i = l.invariant in
    let n = c.in-Some.length in
    let short : n ≤ 65535 = subst (λ (o : Option ℕ). IfSome o (λ (k : ℕ). k ≤ 65535)) c.in-Some.is c.in-Ok.ensures.short in
    let taken = subst (λ (t : Option ℕ). IfSome (items_of l.area) (λ xs. IsTakenFrom xs (items_of c.take_longest.new.area) t)) c.in-Some.is c.in-Ok.ensures.taken in
    let w = went l.area c.take_longest.new.area n i.some taken in
    let less : count_in l.area ≡ suc (count_in c.take_longest.new.area) = w.1 in
    let fills : c.blocks_for-blocks.result ≡ ceil n c.args.block_size = c.blocks_for-blocks.ensures.count in
    let filled : ceil n c.args.block_size ≤ 72 = fills_few n c.args.block_size short c.requires.long c.requires.short in
    let few = i.few in
    let low = i.short in
    record {
      some = w.0;
      few = omega (arith, few, less);
      short = omega (arith, low, fills, filled);
      moves = λ items is plain.
          let p = i.moves items is plain in
          let used : c.used_bytes.result ≡ sizes_of p.left = subst (λ (o : Option (List Item)). IfSome o (λ xs. c.used_bytes.result ≡ sizes_of xs)) p.is c.used_bytes.ensures in
          let long : c.args.room < sizes_of p.left = subst (λ (k : ℕ). c.args.room < k) used c.loop-alloc-test.true in
          let out : IsTakenFrom p.left (items_of c.take_longest.new.area) (Some n) = subst (λ (o : Option (List Item)). IfSome o (λ xs. IsTakenFrom xs (items_of c.take_longest.new.area) (Some n))) p.is taken in
          subst (λ (k : ℕ). IsOnMove c.args.block_size c.args.room items c.take_longest.new.area (l.count + 1) (l.blocks + k)) (sym (fills ∙ ap (λ (k : ℕ). ceil k c.args.block_size) out.3))
          (goes c.args.block_size c.args.room items l.area l.count l.blocks p c.take_longest.new.area out.0 long out.1 out.2);
    }

pub returns-clause-moving : goal.returns-clause-moving
returns-clause-moving c items is plain =
    let l = c.loop-alloc in
    let p = l.invariant.moves items is plain in
    let used : c.used_bytes.result ≡ sizes_of p.left = subst (λ (o : Option (List Item)). IfSome o (λ xs. c.used_bytes.result ≡ sizes_of xs)) p.is c.used_bytes.ensures in
    is_done c.args.block_size c.args.room items l.area l.count l.blocks p (subst (λ (k : ℕ). k ≤ c.args.room) used c.loop-alloc-test.false)
