use Rattle.std.proofs.Common.{◌≡◌, ◌<◌, ◌+◌, ◌-◌, ◌∙◌, ◌⊎◌, inl, inr, ℕ, List, length, sym, ap, subst, arith}
use Rattle.std.specs.Prelude.{Result, Ok, Err, OnOk, IfOk}
use Rattle.bfs_bytes.specs.declared.Run.{Run}
use Rattle.bfs_inode.specs.Inode.{stream_at}
use Rattle.bfs_txn.specs.declared.fault.BlockFault.{BlockFault}
use Rattle.bfs_txn.specs.Told.{AreOfBlock}
use Rattle.bfs_stream.specs.Places.{fields, level_blocks, levels_at, places_at}
use Rattle.bfs_stream.specs.Told.{contents}
use Rattle.bfs_stream.specs.Scans.{ends_of}
use Rattle.bfs_stream.specs.declared.lookup.Ends.{Ends}
use Rattle.bfs_stream.proofs.Arrays.{read_is}
use Rattle.bfs_stream.proofs.Placed.{told_inode, length-places, ends_are, AreEnds}
use Rattle.bfs_cuts.proofs.CutTwice.{nothing_dropped, as_dropped, may_fewer}
use Rattle.bfs_cuts.proofs.drop.drop_first.Goals as goal

on_ok : {P Q : Type 0} (r : Result (Unit {0}) BlockFault) → (P → Q) → OnOk r P → OnOk r Q
on_ok (Ok x) f p = f p
on_ok (Err x) f p = p

if_ok : {P Q : ℕ → Type 0} (r : Result ℕ BlockFault) → ((n : ℕ) → P n → Q n) → IfOk r P → IfOk r Q
if_ok (Ok x) f p = f x p
if_ok (Err x) f p = p

own_of : (d i D I : ℕ) → d ≡ D → ((I ≡ 0) × (i ≡ 0)) ⊎ ((0 < I) × (i ≡ D + I)) → i - d ≡ I
own_of d i D I e (inl none) = omega (arith, e, none.0, none.1)
own_of d i D I e (inr some) = omega (arith, e, some.1)

pub returns-then-indirect-eq0-clause-dropped : goal.returns-then-indirect-eq0-clause-dropped
returns-then-indirect-eq0-clause-dropped g c m is owns none may =
    let o = c.args.stream.now in
    let id : c.inode-id.result ≡ o.id = c.inode-id.ensures in
    let of : AreOfBlock (g.E.Blocks.told c.args.edits.now) o.id c.get.new.into = subst (λ (k : ℕ). AreOfBlock (g.E.Blocks.told c.args.edits.now) k c.get.new.into) id c.in-Ok.ensures.bytes in
    let read = read_is m (g.E.Blocks.told c.args.edits.now) o.id c.get.new.into is (told_inode m o owns.stands) of in
    let now_is = c.in-Ok.ensures.told ∙ is in
    let array_is : c.indirect.result ≡ (fields o.sizes (contents m) o.id).indirect = c.indirect.ensures ∙ ap (λ (l : List ℕ). (stream_at l).indirect) (c.over.ensures ∙ read) in
    let len : c.indirect.result.len ≡ (fields o.sizes (contents m) o.id).indirect.len = ap (λ (r : Run). r.len) array_is in
    let zero_len = c.if-indirect-eq0.true in
    nothing_dropped o c.args.bitmap.now m (g.E.Blocks.told c.get.new.self) (g.E.Blocks.changed c.args.edits.now) (g.E.Blocks.changed c.get.new.self) c.args.most owns now_is c.in-Ok.ensures.changed (inl ((let z : (fields o.sizes (contents m) o.id).indirect.len ≡ 0 = omega (arith, len, zero_len) in z), none))

pub returns-then-own-most-clause-dropped : goal.returns-then-own-most-clause-dropped
returns-then-own-most-clause-dropped g c m is owns none may =
    let o = c.args.stream.now in
    let id : c.inode-id.result ≡ o.id = c.inode-id.ensures in
    let of : AreOfBlock (g.E.Blocks.told c.args.edits.now) o.id c.get.new.into = subst (λ (k : ℕ). AreOfBlock (g.E.Blocks.told c.args.edits.now) k c.get.new.into) id c.in-Ok.ensures.bytes in
    let read = read_is m (g.E.Blocks.told c.args.edits.now) o.id c.get.new.into is (told_inode m o owns.stands) of in
    let now_is = c.in-Ok.ensures.told ∙ is in
    let l = levels_at o.sizes (contents m) o.id in
    let here : c.ends-ends.result ≡ ends_of o.sizes (fields o.sizes (contents m) o.id) = c.ends-ends.ensures ∙ ap (λ (b : List ℕ). ends_of o.sizes (stream_at b)) read in
    let are = subst (λ (x : Ends). AreEnds o.sizes (contents m) o.id x.direct x.indirect x.double) (sym here) (ends_are o.sizes (contents m) o.id c.sizes.ensures.sizes owns.stands.sound) in
    let own_is : c.less-own.result ≡ length (level_blocks o.sizes l.table) = c.less-own.ensures ∙ own_of c.ends-ends.result.direct c.ends-ends.result.indirect (length (level_blocks o.sizes l.stream.direct)) (length (level_blocks o.sizes l.table)) are.direct are.indirect in
    let more = c.if-own-most.true in
    let sum = length-places o.sizes (contents m) o.id in
    nothing_dropped o c.args.bitmap.now m (g.E.Blocks.told c.get.new.self) (g.E.Blocks.changed c.args.edits.now) (g.E.Blocks.changed c.get.new.self) c.args.most owns now_is c.in-Ok.ensures.changed
    (inr (inl (none, (let z : length (level_blocks o.sizes l.stream.direct) + c.args.most < length (places_at o.sizes (contents m) o.id) = omega (arith, more, own_is, sum) in z))))

pub returns-in-Ok-drop_indirect-clause-dropped : goal.returns-in-Ok-drop_indirect-clause-dropped
returns-in-Ok-drop_indirect-clause-dropped g c m is owns none may =
    let o = c.args.stream.now in
    let v = c.args.bitmap.now in
    let id : c.inode-id.result ≡ o.id = c.inode-id.ensures in
    let of : AreOfBlock (g.E.Blocks.told c.args.edits.now) o.id c.get.new.into = subst (λ (k : ℕ). AreOfBlock (g.E.Blocks.told c.args.edits.now) k c.get.new.into) id c.in-Ok.ensures.bytes in
    let read = read_is m (g.E.Blocks.told c.args.edits.now) o.id c.get.new.into is (told_inode m o owns.stands) of in
    let now_is = c.in-Ok.ensures.told ∙ is in
    let l = levels_at o.sizes (contents m) o.id in
    let here : c.ends-ends.result ≡ ends_of o.sizes (fields o.sizes (contents m) o.id) = c.ends-ends.ensures ∙ ap (λ (b : List ℕ). ends_of o.sizes (stream_at b)) read in
    let are = subst (λ (x : Ends). AreEnds o.sizes (contents m) o.id x.direct x.indirect x.double) (sym here) (ends_are o.sizes (contents m) o.id c.sizes.ensures.sizes owns.stands.sound) in
    let own_is : c.less-own.result ≡ length (level_blocks o.sizes l.table) = c.less-own.ensures ∙ own_of c.ends-ends.result.direct c.ends-ends.result.indirect (length (level_blocks o.sizes l.stream.direct)) (length (level_blocks o.sizes l.table)) are.direct are.indirect in
    let few = c.if-own-most.false in
    let table = c.in-Ok-table.ensures.is m now_is owns.stands in
    let may1 = may_fewer o m c.args.most (length (level_blocks o.sizes l.table)) (omega (arith, few, own_is)) may in
    let done = c.in-Ok-drop_indirect.ensures.dropped m (c.in-Ok-table.ensures.told ∙ now_is) owns table none may1 in
    let changed : g.E.Blocks.changed c.table.new.under ≡ g.E.Blocks.changed c.args.edits.now = c.in-Ok-table.ensures.changed ∙ c.in-Ok.ensures.changed in
    as_dropped o v c.drop_indirect.new.bitmap m (length (level_blocks o.sizes l.table)) c.less-own.result c.args.most (g.E.Blocks.told c.drop_indirect.new.edits) (g.E.Blocks.changed c.table.new.under) (g.E.Blocks.changed c.args.edits.now) (g.E.Blocks.changed c.drop_indirect.new.edits) (sym own_is) changed done.0 done.1

pub returns-in-Err-table-clause-sound : goal.returns-in-Err-table-clause-sound
returns-in-Err-table-clause-sound g c m is owns none =
    let o = c.args.stream.now in
    let id : c.inode-id.result ≡ o.id = c.inode-id.ensures in
    let of : AreOfBlock (g.E.Blocks.told c.args.edits.now) o.id c.get.new.into = subst (λ (k : ℕ). AreOfBlock (g.E.Blocks.told c.args.edits.now) k c.get.new.into) id c.in-Ok.ensures.bytes in
    let read = read_is m (g.E.Blocks.told c.args.edits.now) o.id c.get.new.into is (told_inode m o owns.stands) of in
    let now_is = c.in-Ok.ensures.told ∙ is in
    let array_is : c.indirect.result ≡ (fields o.sizes (contents m) o.id).indirect = c.indirect.ensures ∙ ap (λ (l : List ℕ). (stream_at l).indirect) (c.over.ensures ∙ read) in
    let len : c.indirect.result.len ≡ (fields o.sizes (contents m) o.id).indirect.len = ap (λ (r : Run). r.len) array_is in
    let some = c.if-indirect-eq0.false in
    c.in-Err-table.ensures.sound m now_is owns.stands (omega (arith, len, some))

pub returns-in-Err-drop_indirect-clause-sound : goal.returns-in-Err-drop_indirect-clause-sound
returns-in-Err-drop_indirect-clause-sound g c m is owns none =
    let now_is = c.in-Ok.ensures.told ∙ is in
    c.in-Err-drop_indirect.ensures.sound m (c.in-Ok-table.ensures.told ∙ now_is) owns (c.in-Ok-table.ensures.is m now_is owns.stands)
