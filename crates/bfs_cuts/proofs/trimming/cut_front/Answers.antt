use Rattle.std.proofs.Common.{◌≡◌, ◌<◌, ◌∙◌, ℕ, List, Bool, ap, subst, arith}
use Rattle.std.specs.Prelude.{IfOk}
use Rattle.bfs_bytes.specs.declared.Run.{Run}
use Rattle.bfs_inode.specs.Inode.{stream_at}
use Rattle.bfs_txn.specs.Told.{AreOfBlock}
use Rattle.bfs_stream.specs.Places.{fields}
use Rattle.bfs_stream.specs.Told.{contents}
use Rattle.bfs_stream.specs.Trimmed.{HasCut}
use Rattle.bfs_stream.proofs.Arrays.{read_is}
use Rattle.bfs_stream.proofs.Placed.{told_inode}
use Rattle.bfs_cuts.proofs.trimming.cut_front.Goals as goal

pub returns-then-indirect-eq0-clause-trimmed : goal.returns-then-indirect-eq0-clause-trimmed
returns-then-indirect-eq0-clause-trimmed g c m is owns none may =
    let o = c.args.stream.now in
    let v = c.args.bitmap.now in
    let id : c.inode-id.result ≡ o.id = c.inode-id.ensures in
    let of : AreOfBlock (g.E.Blocks.told c.args.edits.now) o.id c.get.new.into = subst (λ (k : ℕ). AreOfBlock (g.E.Blocks.told c.args.edits.now) k c.get.new.into) id c.in-Ok.ensures.bytes in
    let read = read_is m (g.E.Blocks.told c.args.edits.now) o.id c.get.new.into is (told_inode m o owns.stands) of in
    let now_is = c.in-Ok.ensures.told ∙ is in
    let array_is : c.indirect.result ≡ (fields o.sizes (contents m) o.id).indirect = c.indirect.ensures ∙ ap (λ (l : List ℕ). (stream_at l).indirect) (c.over.ensures ∙ read) in
    let e : c.indirect.result.len ≡ (fields o.sizes (contents m) o.id).indirect.len = ap (λ (r : Run). r.len) array_is in
    let zero = c.if-indirect-eq0.true in
    let empty : (fields o.sizes (contents m) o.id).indirect.len ≡ 0 = omega (arith, e, zero) in
    subst (λ (f : ℕ → Bool). IfOk c.cut_first.result (λ k. HasCut o v c.cut_first.new.bitmap m k (g.E.Blocks.told c.cut_first.new.edits) f (g.E.Blocks.changed c.cut_first.new.edits))) c.in-Ok.ensures.changed
    (c.cut_first.ensures.trimmed m now_is owns (empty, none) may)

pub returns-clause-trimmed : goal.returns-clause-trimmed
returns-clause-trimmed g c m is owns none may =
    let o = c.args.stream.now in
    let v = c.args.bitmap.now in
    let id : c.inode-id.result ≡ o.id = c.inode-id.ensures in
    let of : AreOfBlock (g.E.Blocks.told c.args.edits.now) o.id c.get.new.into = subst (λ (k : ℕ). AreOfBlock (g.E.Blocks.told c.args.edits.now) k c.get.new.into) id c.in-Ok.ensures.bytes in
    let read = read_is m (g.E.Blocks.told c.args.edits.now) o.id c.get.new.into is (told_inode m o owns.stands) of in
    let now_is = c.in-Ok.ensures.told ∙ is in
    let array_is : c.indirect.result ≡ (fields o.sizes (contents m) o.id).indirect = c.indirect.ensures ∙ ap (λ (l : List ℕ). (stream_at l).indirect) (c.over.ensures ∙ read) in
    let e : c.indirect.result.len ≡ (fields o.sizes (contents m) o.id).indirect.len = ap (λ (r : Run). r.len) array_is in
    let zero = c.if-indirect-eq0.false in
    let some : 0 < (fields o.sizes (contents m) o.id).indirect.len = omega (arith, e, zero) in
    subst (λ (f : ℕ → Bool). IfOk c.cut_table.result (λ k. HasCut o v c.cut_table.new.bitmap m k (g.E.Blocks.told c.cut_table.new.edits) f (g.E.Blocks.changed c.cut_table.new.edits))) c.in-Ok.ensures.changed
    (c.cut_table.ensures.trimmed m now_is owns some none may)
