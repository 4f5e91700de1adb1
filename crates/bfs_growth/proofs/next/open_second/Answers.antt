use Rattle.std.proofs.Common.{◌≡◌, ◌∙◌, ℕ, List, Bool, ap, subst, arith}
use Rattle.bfs_bytes.specs.declared.Run.{Run}
use Rattle.bfs_inode.specs.Inode.{stream_at}
use Rattle.bfs_txn.specs.Told.{AreOfBlock}
use Rattle.bfs_stream.specs.Places.{fields}
use Rattle.bfs_stream.specs.Told.{contents}
use Rattle.bfs_stream.proofs.Arrays.{read_is}
use Rattle.bfs_stream.proofs.Placed.{told_inode}
use Rattle.bfs_growth.proofs.Twice.{has_grown_none}
use Rattle.bfs_stream.specs.Grown.{HasGrown}
use Rattle.bfs_growth.proofs.next.open_second.Goals as goal

pub returns-then-double_indirect-gt0-clause-grown : goal.returns-then-double_indirect-gt0-clause-grown
returns-then-double_indirect-gt0-clause-grown g c m is owns some full = has_grown_none c.args.stream.now c.args.bitmap.now m (g.E.Blocks.told c.get.new.self) (g.E.Blocks.changed c.args.edits.now) (g.E.Blocks.changed c.get.new.self) owns (c.in-Ok.ensures.told ∙ is) c.in-Ok.ensures.changed

pub returns-in-Ok-open_double-clause-grown : goal.returns-in-Ok-open_double-clause-grown
returns-in-Ok-open_double-clause-grown g c m is owns some full =
    let o = c.args.stream.now in
    let id : c.inode-id.result ≡ o.id = c.inode-id.ensures in
    let of : AreOfBlock (g.E.Blocks.told c.args.edits.now) o.id c.get.new.into = subst (λ (k : ℕ). AreOfBlock (g.E.Blocks.told c.args.edits.now) k c.get.new.into) id c.in-Ok.ensures.bytes in
    let read = read_is m (g.E.Blocks.told c.args.edits.now) o.id c.get.new.into is (told_inode m o owns.stands) of in
    let array_is : c.double_indirect.result ≡ (fields o.sizes (contents m) o.id).double_indirect = c.double_indirect.ensures ∙ ap (λ (l : List ℕ). (stream_at l).double_indirect) (c.over.ensures ∙ read) in
    let e : c.double_indirect.result.len ≡ (fields o.sizes (contents m) o.id).double_indirect.len = ap (λ (r : Run). r.len) array_is in
    let none = c.if-double_indirect-gt0.false in
    subst (λ (f : ℕ → Bool). HasGrown o c.args.bitmap.now c.open_double.new.bitmap m 0 (g.E.Blocks.told c.open_double.new.edits) f (g.E.Blocks.changed c.open_double.new.edits)) c.in-Ok.ensures.changed (c.in-Ok-open_double.ensures.grown m (c.in-Ok.ensures.told ∙ is) owns some full (omega (arith, e, none)))

pub returns-in-Ok-open_double-clause-ready : goal.returns-in-Ok-open_double-clause-ready
returns-in-Ok-open_double-clause-ready g c m is owns some full =
    let o = c.args.stream.now in
    let id : c.inode-id.result ≡ o.id = c.inode-id.ensures in
    let of : AreOfBlock (g.E.Blocks.told c.args.edits.now) o.id c.get.new.into = subst (λ (k : ℕ). AreOfBlock (g.E.Blocks.told c.args.edits.now) k c.get.new.into) id c.in-Ok.ensures.bytes in
    let read = read_is m (g.E.Blocks.told c.args.edits.now) o.id c.get.new.into is (told_inode m o owns.stands) of in
    let array_is : c.double_indirect.result ≡ (fields o.sizes (contents m) o.id).double_indirect = c.double_indirect.ensures ∙ ap (λ (l : List ℕ). (stream_at l).double_indirect) (c.over.ensures ∙ read) in
    let e : c.double_indirect.result.len ≡ (fields o.sizes (contents m) o.id).double_indirect.len = ap (λ (r : Run). r.len) array_is in
    let none = c.if-double_indirect-gt0.false in
    c.in-Ok-open_double.ensures.ready m (c.in-Ok.ensures.told ∙ is) owns some full (omega (arith, e, none))

pub returns-in-Err-open_double-clause-faults : goal.returns-in-Err-open_double-clause-faults
returns-in-Err-open_double-clause-faults g c m is owns some full =
    let o = c.args.stream.now in
    let id : c.inode-id.result ≡ o.id = c.inode-id.ensures in
    let of : AreOfBlock (g.E.Blocks.told c.args.edits.now) o.id c.get.new.into = subst (λ (k : ℕ). AreOfBlock (g.E.Blocks.told c.args.edits.now) k c.get.new.into) id c.in-Ok.ensures.bytes in
    let read = read_is m (g.E.Blocks.told c.args.edits.now) o.id c.get.new.into is (told_inode m o owns.stands) of in
    let array_is : c.double_indirect.result ≡ (fields o.sizes (contents m) o.id).double_indirect = c.double_indirect.ensures ∙ ap (λ (l : List ℕ). (stream_at l).double_indirect) (c.over.ensures ∙ read) in
    let e : c.double_indirect.result.len ≡ (fields o.sizes (contents m) o.id).double_indirect.len = ap (λ (r : Run). r.len) array_is in
    let none = c.if-double_indirect-gt0.false in
    c.in-Err-open_double.ensures.faults m (c.in-Ok.ensures.told ∙ is) owns some full (omega (arith, e, none))
