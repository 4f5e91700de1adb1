use Rattle.std.proofs.Common.{◌≡◌, ◌∙◌, ℕ, List, Bool, ap, subst, arith}
use Rattle.bfs_bytes.specs.declared.Run.{Run}
use Rattle.bfs_inode.specs.Inode.{stream_at}
use Rattle.bfs_txn.specs.Told.{AreOfBlock}
use Rattle.bfs_stream.specs.Places.{fields}
use Rattle.bfs_stream.specs.Told.{contents}
use Rattle.bfs_stream.proofs.Arrays.{read_is}
use Rattle.bfs_stream.proofs.Placed.{told_inode}
use Rattle.bfs_growth.proofs.Twice.{has_grown_none}
use Rattle.bfs_stream.specs.Grown.{HasGrown}
use Rattle.bfs_growth.proofs.next.open_first.Goals as goal

pub returns-then-indirect-gt0-clause-grown : goal.returns-then-indirect-gt0-clause-grown
returns-then-indirect-gt0-clause-grown g c m is owns full = has_grown_none c.args.stream.now c.args.bitmap.now m (g.E.Blocks.told c.get.new.self) (g.E.Blocks.changed c.args.edits.now) (g.E.Blocks.changed c.get.new.self) owns (c.in-Ok.ensures.told ∙ is) c.in-Ok.ensures.changed

pub returns-in-Ok-open_indirect-clause-grown : goal.returns-in-Ok-open_indirect-clause-grown
returns-in-Ok-open_indirect-clause-grown g c m is owns full =
    let o = c.args.stream.now in
    let id : c.inode-id.result ≡ o.id = c.inode-id.ensures in
    let of : AreOfBlock (g.E.Blocks.told c.args.edits.now) o.id c.get.new.into = subst (λ (k : ℕ). AreOfBlock (g.E.Blocks.told c.args.edits.now) k c.get.new.into) id c.in-Ok.ensures.bytes in
    let read = read_is m (g.E.Blocks.told c.args.edits.now) o.id c.get.new.into is (told_inode m o owns.stands) of in
    let array_is : c.indirect.result ≡ (fields o.sizes (contents m) o.id).indirect = c.indirect.ensures ∙ ap (λ (l : List ℕ). (stream_at l).indirect) (c.over.ensures ∙ read) in
    let e : c.indirect.result.len ≡ (fields o.sizes (contents m) o.id).indirect.len = ap (λ (r : Run). r.len) array_is in
    let none = c.if-indirect-gt0.false in
    subst (λ (f : ℕ → Bool). HasGrown o c.args.bitmap.now c.open_indirect.new.bitmap m 0 (g.E.Blocks.told c.open_indirect.new.edits) f (g.E.Blocks.changed c.open_indirect.new.edits)) c.in-Ok.ensures.changed (c.in-Ok-open_indirect.ensures.grown m (c.in-Ok.ensures.told ∙ is) owns full (omega (arith, e, none)))

pub returns-in-Ok-open_indirect-clause-ready : goal.returns-in-Ok-open_indirect-clause-ready
returns-in-Ok-open_indirect-clause-ready g c m is owns full =
    let o = c.args.stream.now in
    let id : c.inode-id.result ≡ o.id = c.inode-id.ensures in
    let of : AreOfBlock (g.E.Blocks.told c.args.edits.now) o.id c.get.new.into = subst (λ (k : ℕ). AreOfBlock (g.E.Blocks.told c.args.edits.now) k c.get.new.into) id c.in-Ok.ensures.bytes in
    let read = read_is m (g.E.Blocks.told c.args.edits.now) o.id c.get.new.into is (told_inode m o owns.stands) of in
    let array_is : c.indirect.result ≡ (fields o.sizes (contents m) o.id).indirect = c.indirect.ensures ∙ ap (λ (l : List ℕ). (stream_at l).indirect) (c.over.ensures ∙ read) in
    let e : c.indirect.result.len ≡ (fields o.sizes (contents m) o.id).indirect.len = ap (λ (r : Run). r.len) array_is in
    let none = c.if-indirect-gt0.false in
    c.in-Ok-open_indirect.ensures.ready m (c.in-Ok.ensures.told ∙ is) owns full (omega (arith, e, none))

pub returns-in-Err-open_indirect-clause-faults : goal.returns-in-Err-open_indirect-clause-faults
returns-in-Err-open_indirect-clause-faults g c m is owns full =
    let o = c.args.stream.now in
    let id : c.inode-id.result ≡ o.id = c.inode-id.ensures in
    let of : AreOfBlock (g.E.Blocks.told c.args.edits.now) o.id c.get.new.into = subst (λ (k : ℕ). AreOfBlock (g.E.Blocks.told c.args.edits.now) k c.get.new.into) id c.in-Ok.ensures.bytes in
    let read = read_is m (g.E.Blocks.told c.args.edits.now) o.id c.get.new.into is (told_inode m o owns.stands) of in
    let array_is : c.indirect.result ≡ (fields o.sizes (contents m) o.id).indirect = c.indirect.ensures ∙ ap (λ (l : List ℕ). (stream_at l).indirect) (c.over.ensures ∙ read) in
    let e : c.indirect.result.len ≡ (fields o.sizes (contents m) o.id).indirect.len = ap (λ (r : Run). r.len) array_is in
    let none = c.if-indirect-gt0.false in
    c.in-Err-open_indirect.ensures.faults m (c.in-Ok.ensures.told ∙ is) owns full (omega (arith, e, none))
