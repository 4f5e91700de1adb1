use Rattle.std.proofs.Common.{◌≡◌, ◌<◌, ◌-◌, ◌∙◌, ℕ, Bool, List, ap, subst, arith}
use Rattle.std.specs.Prelude.{Result, Ok, Err, OnOk, IfOk}
use Rattle.bfs_bytes.specs.declared.Run.{Run}
use Rattle.bfs_inode.specs.Inode.{stream_at}
use Rattle.bfs_txn.specs.declared.fault.BlockFault.{BlockFault}
use Rattle.bfs_txn.specs.Told.{AreOfBlock}
use Rattle.bfs_stream.specs.Places.{fields}
use Rattle.bfs_stream.specs.Told.{contents}
use Rattle.bfs_stream.specs.Trimmed.{HasTrimmed, HasSpare}
use Rattle.bfs_stream.proofs.Arrays.{read_is}
use Rattle.bfs_stream.proofs.Placed.{told_inode}
use Rattle.bfs_cuts.proofs.drop.drop_arrays.Goals as goal

on_ok : {P Q : Type 0} (r : Result (Unit {0}) BlockFault) → (P → Q) → OnOk r P → OnOk r Q
on_ok (Ok x) f p = f p
on_ok (Err x) f p = p

if_ok : {P Q : ℕ → Type 0} (r : Result ℕ BlockFault) → ((n : ℕ) → P n → Q n) → IfOk r P → IfOk r Q
if_ok (Ok x) f p = f x p
if_ok (Err x) f p = p

pub returns-then-double_indirect-eq0-clause-trimmed : goal.returns-then-double_indirect-eq0-clause-trimmed
returns-then-double_indirect-eq0-clause-trimmed g c m is owns may =
    let o = c.args.stream.now in
    let v = c.args.bitmap.now in
    let id : c.inode-id.result ≡ o.id = c.inode-id.ensures in
    let of : AreOfBlock (g.E.Blocks.told c.args.edits.now) o.id c.get.new.into = subst (λ (k : ℕ). AreOfBlock (g.E.Blocks.told c.args.edits.now) k c.get.new.into) id c.in-Ok.ensures.bytes in
    let read = read_is m (g.E.Blocks.told c.args.edits.now) o.id c.get.new.into is (told_inode m o owns.stands) of in
    let now_is = c.in-Ok.ensures.told ∙ is in
    let array_is : c.double_indirect.result ≡ (fields o.sizes (contents m) o.id).double_indirect = c.double_indirect.ensures ∙ ap (λ (l : List ℕ). (stream_at l).double_indirect) (c.over.ensures ∙ read) in
    let len : c.double_indirect.result.len ≡ (fields o.sizes (contents m) o.id).double_indirect.len = ap (λ (r : Run). r.len) array_is in
    let e = c.if-double_indirect-eq0.true in
    let none : (fields o.sizes (contents m) o.id).double_indirect.len ≡ 0 = omega (arith, len, e) in
    subst (λ (f : ℕ → Bool). IfOk c.drop_first.result (λ n. (one : HasTrimmed o v c.drop_first.new.bitmap m n (g.E.Blocks.told c.drop_first.new.edits) f (g.E.Blocks.changed c.drop_first.new.edits)) × HasSpare o one.2.map (c.args.most - n))) c.in-Ok.ensures.changed
    (if_ok c.drop_first.result (λ n one. (one.0.0, one.1)) (c.drop_first.ensures.dropped m now_is owns none may))

pub returns-then-double_indirect-eq0-clause-sound : goal.returns-then-double_indirect-eq0-clause-sound
returns-then-double_indirect-eq0-clause-sound g c m is owns may =
    let o = c.args.stream.now in
    let id : c.inode-id.result ≡ o.id = c.inode-id.ensures in
    let of : AreOfBlock (g.E.Blocks.told c.args.edits.now) o.id c.get.new.into = subst (λ (k : ℕ). AreOfBlock (g.E.Blocks.told c.args.edits.now) k c.get.new.into) id c.in-Ok.ensures.bytes in
    let read = read_is m (g.E.Blocks.told c.args.edits.now) o.id c.get.new.into is (told_inode m o owns.stands) of in
    let now_is = c.in-Ok.ensures.told ∙ is in
    let array_is : c.double_indirect.result ≡ (fields o.sizes (contents m) o.id).double_indirect = c.double_indirect.ensures ∙ ap (λ (l : List ℕ). (stream_at l).double_indirect) (c.over.ensures ∙ read) in
    let len : c.double_indirect.result.len ≡ (fields o.sizes (contents m) o.id).double_indirect.len = ap (λ (r : Run). r.len) array_is in
    let e = c.if-double_indirect-eq0.true in
    let none : (fields o.sizes (contents m) o.id).double_indirect.len ≡ 0 = omega (arith, len, e) in
    c.drop_first.ensures.sound m now_is owns none

pub returns-then-array_length-tables-clause-trimmed : goal.returns-then-array_length-tables-clause-trimmed
returns-then-array_length-tables-clause-trimmed g c m is owns may =
    let o = c.args.stream.now in
    let v = c.args.bitmap.now in
    let id : c.inode-id.result ≡ o.id = c.inode-id.ensures in
    let of : AreOfBlock (g.E.Blocks.told c.args.edits.now) o.id c.get.new.into = subst (λ (k : ℕ). AreOfBlock (g.E.Blocks.told c.args.edits.now) k c.get.new.into) id c.in-Ok.ensures.bytes in
    let read = read_is m (g.E.Blocks.told c.args.edits.now) o.id c.get.new.into is (told_inode m o owns.stands) of in
    let now_is = c.in-Ok.ensures.told ∙ is in
    let array_is : c.double_indirect.result ≡ (fields o.sizes (contents m) o.id).double_indirect = c.double_indirect.ensures ∙ ap (λ (l : List ℕ). (stream_at l).double_indirect) (c.over.ensures ∙ read) in
    let len : c.double_indirect.result.len ≡ (fields o.sizes (contents m) o.id).double_indirect.len = ap (λ (r : Run). r.len) array_is in
    let e = c.if-double_indirect-eq0.false in
    let some : 0 < (fields o.sizes (contents m) o.id).double_indirect.len = omega (arith, len, e) in
    let are = c.in-Ok-tables.ensures.are m now_is owns.stands some in
    subst (λ (f : ℕ → Bool). IfOk c.drop_last.result (λ n. (one : HasTrimmed o v c.drop_last.new.bitmap m n (g.E.Blocks.told c.drop_last.new.edits) f (g.E.Blocks.changed c.drop_last.new.edits)) × HasSpare o one.2.map (c.args.most - n))) (c.in-Ok-tables.ensures.changed ∙ c.in-Ok.ensures.changed)
    (c.drop_last.ensures.trimmed m (c.in-Ok-tables.ensures.told ∙ now_is) owns are some may)

pub returns-then-array_length-tables-clause-sound : goal.returns-then-array_length-tables-clause-sound
returns-then-array_length-tables-clause-sound g c m is owns may =
    let o = c.args.stream.now in
    let id : c.inode-id.result ≡ o.id = c.inode-id.ensures in
    let of : AreOfBlock (g.E.Blocks.told c.args.edits.now) o.id c.get.new.into = subst (λ (k : ℕ). AreOfBlock (g.E.Blocks.told c.args.edits.now) k c.get.new.into) id c.in-Ok.ensures.bytes in
    let read = read_is m (g.E.Blocks.told c.args.edits.now) o.id c.get.new.into is (told_inode m o owns.stands) of in
    let now_is = c.in-Ok.ensures.told ∙ is in
    let array_is : c.double_indirect.result ≡ (fields o.sizes (contents m) o.id).double_indirect = c.double_indirect.ensures ∙ ap (λ (l : List ℕ). (stream_at l).double_indirect) (c.over.ensures ∙ read) in
    let len : c.double_indirect.result.len ≡ (fields o.sizes (contents m) o.id).double_indirect.len = ap (λ (r : Run). r.len) array_is in
    let e = c.if-double_indirect-eq0.false in
    let some : 0 < (fields o.sizes (contents m) o.id).double_indirect.len = omega (arith, len, e) in
    let are = c.in-Ok-tables.ensures.are m now_is owns.stands some in
    c.drop_last.ensures.sound m (c.in-Ok-tables.ensures.told ∙ now_is) owns are

pub returns-clause-trimmed : goal.returns-clause-trimmed
returns-clause-trimmed g c m is owns may =
    let o = c.args.stream.now in
    let v = c.args.bitmap.now in
    let id : c.inode-id.result ≡ o.id = c.inode-id.ensures in
    let of : AreOfBlock (g.E.Blocks.told c.args.edits.now) o.id c.get.new.into = subst (λ (k : ℕ). AreOfBlock (g.E.Blocks.told c.args.edits.now) k c.get.new.into) id c.in-Ok.ensures.bytes in
    let read = read_is m (g.E.Blocks.told c.args.edits.now) o.id c.get.new.into is (told_inode m o owns.stands) of in
    let now_is = c.in-Ok.ensures.told ∙ is in
    let array_is : c.double_indirect.result ≡ (fields o.sizes (contents m) o.id).double_indirect = c.double_indirect.ensures ∙ ap (λ (l : List ℕ). (stream_at l).double_indirect) (c.over.ensures ∙ read) in
    let len : c.double_indirect.result.len ≡ (fields o.sizes (contents m) o.id).double_indirect.len = ap (λ (r : Run). r.len) array_is in
    let e = c.if-double_indirect-eq0.false in
    let some : 0 < (fields o.sizes (contents m) o.id).double_indirect.len = omega (arith, len, e) in
    let are = c.in-Ok-tables.ensures.are m now_is owns.stands some in
    subst (λ (f : ℕ → Bool). IfOk c.drop_both.result (λ n. (one : HasTrimmed o v c.drop_both.new.bitmap m n (g.E.Blocks.told c.drop_both.new.edits) f (g.E.Blocks.changed c.drop_both.new.edits)) × HasSpare o one.2.map (c.args.most - n))) (c.in-Ok-tables.ensures.changed ∙ c.in-Ok.ensures.changed)
    (c.drop_both.ensures.trimmed m (c.in-Ok-tables.ensures.told ∙ now_is) owns are may)

pub returns-clause-sound : goal.returns-clause-sound
returns-clause-sound g c m is owns may =
    let o = c.args.stream.now in
    let id : c.inode-id.result ≡ o.id = c.inode-id.ensures in
    let of : AreOfBlock (g.E.Blocks.told c.args.edits.now) o.id c.get.new.into = subst (λ (k : ℕ). AreOfBlock (g.E.Blocks.told c.args.edits.now) k c.get.new.into) id c.in-Ok.ensures.bytes in
    let read = read_is m (g.E.Blocks.told c.args.edits.now) o.id c.get.new.into is (told_inode m o owns.stands) of in
    let now_is = c.in-Ok.ensures.told ∙ is in
    let array_is : c.double_indirect.result ≡ (fields o.sizes (contents m) o.id).double_indirect = c.double_indirect.ensures ∙ ap (λ (l : List ℕ). (stream_at l).double_indirect) (c.over.ensures ∙ read) in
    let len : c.double_indirect.result.len ≡ (fields o.sizes (contents m) o.id).double_indirect.len = ap (λ (r : Run). r.len) array_is in
    let e = c.if-double_indirect-eq0.false in
    let some : 0 < (fields o.sizes (contents m) o.id).double_indirect.len = omega (arith, len, e) in
    let are = c.in-Ok-tables.ensures.are m now_is owns.stands some in
    c.drop_both.ensures.sound m (c.in-Ok-tables.ensures.told ∙ now_is) owns are may

pub returns-in-Err-tables-clause-sound : goal.returns-in-Err-tables-clause-sound
returns-in-Err-tables-clause-sound g c m is owns may =
    let o = c.args.stream.now in
    let id : c.inode-id.result ≡ o.id = c.inode-id.ensures in
    let of : AreOfBlock (g.E.Blocks.told c.args.edits.now) o.id c.get.new.into = subst (λ (k : ℕ). AreOfBlock (g.E.Blocks.told c.args.edits.now) k c.get.new.into) id c.in-Ok.ensures.bytes in
    let read = read_is m (g.E.Blocks.told c.args.edits.now) o.id c.get.new.into is (told_inode m o owns.stands) of in
    let now_is = c.in-Ok.ensures.told ∙ is in
    let array_is : c.double_indirect.result ≡ (fields o.sizes (contents m) o.id).double_indirect = c.double_indirect.ensures ∙ ap (λ (l : List ℕ). (stream_at l).double_indirect) (c.over.ensures ∙ read) in
    let len : c.double_indirect.result.len ≡ (fields o.sizes (contents m) o.id).double_indirect.len = ap (λ (r : Run). r.len) array_is in
    let e = c.if-double_indirect-eq0.false in
    c.in-Err-tables.ensures.sound m now_is owns.stands (omega (arith, len, e))
