use Rattle.std.proofs.Common.{◌≡◌, ◌≤◌, ◌<◌, ◌-◌, ◌*◌, ◌∙◌, ℕ, List, Bool, Option, ap, sym, subst, arith}
use Rattle.std.specs.Prelude.{length, Result, Ok, Err, OnOk}
use Rattle.std.proofs.lemmas.List.{with_items_is}
use Rattle.bfs_super.specs.Conditions.{natural}
use Rattle.bfs_inode.specs.Inode.{stream_at}
use Rattle.bfs_txn.specs.Told.{AreOfBlock}
use Rattle.bfs_stream.specs.Places.{fields, places_at}
use Rattle.bfs_stream.specs.Told.{contents}
use Rattle.bfs_stream.specs.Scans.{ends_of}
use Rattle.bfs_stream.specs.Trimmed.{HasTrimmedTo}
use Rattle.bfs_txn.specs.declared.fault.BlockFault.{BlockFault}
use Rattle.bfs_stream.proofs.Equal.{same_map}
use Rattle.bfs_stream.proofs.Arrays.{read_is}
use Rattle.bfs_stream.proofs.Placed.{told_inode}
use Rattle.bfs_stream.proofs.Listed.{some_array, blocks_all}
use Rattle.bfs_cuts.proofs.CutTwice.{trimmed_to_none, leaves_given}
use Rattle.bfs_cuts.proofs.trimming.trim.Goals as goal

abbrev blocks_left : ℕ → ℕ → ℕ → ℕ
blocks_left long total blocks = long - (total - blocks)

left_is : (long total blocks : ℕ) → total ≡ long → blocks < total → blocks_left long total blocks ≡ blocks
left_is long total blocks e h = omega (arith, e, h)

pub returns-then-total-blocks-clause-trimmed : goal.returns-then-total-blocks-clause-trimmed
returns-then-total-blocks-clause-trimmed g c m is owns size =
    let o = c.args.stream.now in
    let s = o.sizes in
    let v = c.args.bitmap.now in
    let id : c.inode-id.result ≡ o.id = c.inode-id.ensures in
    let of : AreOfBlock (g.E.Blocks.told c.args.edits.now) o.id c.get.new.into = subst (λ (k : ℕ). AreOfBlock (g.E.Blocks.told c.args.edits.now) k c.get.new.into) id c.in-Ok-get.ensures.bytes in
    let same = read_is m (g.E.Blocks.told c.args.edits.now) o.id c.get.new.into is (told_inode m o owns.stands) of in
    let read : c.deref.result.now ≡ contents m o.id = c.deref.ensures.value ∙ with_items_is c.in-Ok.bytes c.get.new.into (let a = c.get.auto.into in let b = c.deref_mut.ensures.len in let d = c.deref_mut.ensures.value in let e = c.in-Ok.bytes.ok in omega (arith, a, b)) ∙ same in
    let here : c.ends.result ≡ ends_of s (fields s (contents m) o.id) = c.ends.ensures ∙ ap (λ (l : List ℕ). ends_of s (stream_at l)) read in
    let all : c.last-total.result ≡ length (places_at s (contents m) o.id) = c.last-total.ensures ∙ blocks_all o m owns.stands c.sizes.ensures.sizes (some_array s) c.ends.result here in
    let now_is = c.in-Ok-get.ensures.told ∙ is in
    let few = c.if-total-blocks.true in
    trimmed_to_none o v m c.args.blocks (g.E.Blocks.told c.get.new.self) (g.E.Blocks.changed c.args.edits.now) (g.E.Blocks.changed c.get.new.self) owns now_is c.in-Ok-get.ensures.changed (omega (arith, few, all))

pub returns-clause-trimmed : goal.returns-clause-trimmed
returns-clause-trimmed g c m is owns size =
    let o = c.args.stream.now in
    let s = o.sizes in
    let v = c.args.bitmap.now in
    let id : c.inode-id.result ≡ o.id = c.inode-id.ensures in
    let of : AreOfBlock (g.E.Blocks.told c.args.edits.now) o.id c.get.new.into = subst (λ (k : ℕ). AreOfBlock (g.E.Blocks.told c.args.edits.now) k c.get.new.into) id c.in-Ok-get.ensures.bytes in
    let same = read_is m (g.E.Blocks.told c.args.edits.now) o.id c.get.new.into is (told_inode m o owns.stands) of in
    let read : c.deref.result.now ≡ contents m o.id = c.deref.ensures.value ∙ with_items_is c.in-Ok.bytes c.get.new.into (let a = c.get.auto.into in let b = c.deref_mut.ensures.len in let d = c.deref_mut.ensures.value in let e = c.in-Ok.bytes.ok in omega (arith, a, b)) ∙ same in
    let here : c.ends.result ≡ ends_of s (fields s (contents m) o.id) = c.ends.ensures ∙ ap (λ (l : List ℕ). ends_of s (stream_at l)) read in
    let all : c.last-total.result ≡ length (places_at s (contents m) o.id) = c.last-total.ensures ∙ blocks_all o m owns.stands c.sizes.ensures.sizes (some_array s) c.ends.result here in
    let now_is = c.in-Ok-get.ensures.told ∙ is in
    let past = c.if-total-blocks.false in
    let long : blocks_left (length (places_at s (contents m) o.id)) c.last-total.result c.args.blocks ≡ c.args.blocks = left_is (length (places_at s (contents m) o.id)) c.last-total.result c.args.blocks all (omega (arith, past)) in
    let may = subst (λ (n : ℕ). natural (fields s (contents m) o.id).size ≤ s.block_size * n) (sym long) size in
    subst (λ (f : ℕ → Bool). OnOk c.cut_to.result (HasTrimmedTo o v c.cut_to.new.bitmap m c.args.blocks (g.E.Blocks.told c.cut_to.new.edits) f (g.E.Blocks.changed c.cut_to.new.edits))) c.in-Ok-get.ensures.changed
    (subst (λ (n : ℕ). OnOk c.cut_to.result (HasTrimmedTo o v c.cut_to.new.bitmap m n (g.E.Blocks.told c.cut_to.new.edits) (g.E.Blocks.changed c.get.new.self) (g.E.Blocks.changed c.cut_to.new.edits))) long
    (c.cut_to.ensures.trimmed m now_is owns may (let some : 0 < c.last-total.result - c.args.blocks = omega (arith, past) in some) (omega (arith, all))))

pub returns-clause-stays : goal.returns-clause-stays
returns-clause-stays g c m is owns few =
    let o = c.args.stream.now in
    let s = o.sizes in
    let v = c.args.bitmap.now in
    let id : c.inode-id.result ≡ o.id = c.inode-id.ensures in
    let of : AreOfBlock (g.E.Blocks.told c.args.edits.now) o.id c.get.new.into = subst (λ (k : ℕ). AreOfBlock (g.E.Blocks.told c.args.edits.now) k c.get.new.into) id c.in-Ok-get.ensures.bytes in
    let same = read_is m (g.E.Blocks.told c.args.edits.now) o.id c.get.new.into is (told_inode m o owns.stands) of in
    let read : c.deref.result.now ≡ contents m o.id = c.deref.ensures.value ∙ with_items_is c.in-Ok.bytes c.get.new.into (let a = c.get.auto.into in let b = c.deref_mut.ensures.len in let d = c.deref_mut.ensures.value in let e = c.in-Ok.bytes.ok in omega (arith, a, b)) ∙ same in
    let here : c.ends.result ≡ ends_of s (fields s (contents m) o.id) = c.ends.ensures ∙ ap (λ (l : List ℕ). ends_of s (stream_at l)) read in
    let all : c.last-total.result ≡ length (places_at s (contents m) o.id) = c.last-total.ensures ∙ blocks_all o m owns.stands c.sizes.ensures.sizes (some_array s) c.ends.result here in
    let now_is = c.in-Ok-get.ensures.told ∙ is in
    let past = c.if-total-blocks.false in
    absurd (omega (arith, few, all, past))

pub returns-clause-faults : goal.returns-clause-faults
returns-clause-faults g c m is owns size =
    let o = c.args.stream.now in
    let s = o.sizes in
    let v = c.args.bitmap.now in
    let id : c.inode-id.result ≡ o.id = c.inode-id.ensures in
    let of : AreOfBlock (g.E.Blocks.told c.args.edits.now) o.id c.get.new.into = subst (λ (k : ℕ). AreOfBlock (g.E.Blocks.told c.args.edits.now) k c.get.new.into) id c.in-Ok-get.ensures.bytes in
    let same = read_is m (g.E.Blocks.told c.args.edits.now) o.id c.get.new.into is (told_inode m o owns.stands) of in
    let read : c.deref.result.now ≡ contents m o.id = c.deref.ensures.value ∙ with_items_is c.in-Ok.bytes c.get.new.into (let a = c.get.auto.into in let b = c.deref_mut.ensures.len in let d = c.deref_mut.ensures.value in let e = c.in-Ok.bytes.ok in omega (arith, a, b)) ∙ same in
    let here : c.ends.result ≡ ends_of s (fields s (contents m) o.id) = c.ends.ensures ∙ ap (λ (l : List ℕ). ends_of s (stream_at l)) read in
    let all : c.last-total.result ≡ length (places_at s (contents m) o.id) = c.last-total.ensures ∙ blocks_all o m owns.stands c.sizes.ensures.sizes (some_array s) c.ends.result here in
    let now_is = c.in-Ok-get.ensures.told ∙ is in
    let past = c.if-total-blocks.false in
    let long : blocks_left (length (places_at s (contents m) o.id)) c.last-total.result c.args.blocks ≡ c.args.blocks = left_is (length (places_at s (contents m) o.id)) c.last-total.result c.args.blocks all (omega (arith, past)) in
    let may = subst (λ (n : ℕ). natural (fields s (contents m) o.id).size ≤ s.block_size * n) (sym long) size in
    c.cut_to.ensures.sound m now_is owns may (omega (arith, all))

on_ok : {P Q : Type 0} (r : Result (Unit {0}) BlockFault) → (P → Q) → OnOk r P → OnOk r Q
on_ok (Ok x) f p = f p
on_ok (Err x) f p = p

pub returns-then-total-blocks-clause-given : goal.returns-then-total-blocks-clause-given
returns-then-total-blocks-clause-given g c m is owns size n told_is k has none = (
  ap (λ (f : ℕ → Option (List ℕ)). f k) (same_map n m (g.E.Blocks.told c.get.new.self) told_is (c.in-Ok-get.ensures.told ∙ is)),
  λ e. sym (ap (λ (f : ℕ → Bool). f k) c.in-Ok-get.ensures.changed) ∙ e,
)

pub returns-clause-given : goal.returns-clause-given
returns-clause-given g c m is owns size =
    on_ok c.cut_to.result
    (λ to n told_is. leaves_given c.args.stream.now c.args.bitmap.now c.cut_to.new.bitmap m n to.gone (g.E.Blocks.told c.cut_to.new.edits) (g.E.Blocks.changed c.args.edits.now) (g.E.Blocks.changed c.cut_to.new.edits) owns to.trimmed told_is)
    (returns-clause-trimmed g c m is owns size)
