use Rattle.std.proofs.Common.{◌≡◌, ◌∙◌, ℕ, List, length, ap, sym, subst, arith}
use Rattle.std.proofs.lemmas.List.{with_items_is}
use Rattle.bfs_inode.specs.Inode.{stream_at}
use Rattle.bfs_txn.specs.Told.{AreOfBlock}
use Rattle.bfs_stream.specs.Sizes.{Origin}
use Rattle.bfs_stream.specs.Places.{fields}
use Rattle.bfs_stream.specs.Told.{contents}
use Rattle.bfs_stream.specs.Scans.{ends_of, last_end}
use Rattle.bfs_stream.proofs.Arrays.{read_is}
use Rattle.bfs_stream.proofs.Named.{direct_blocks, indirect_blocks, double_blocks}
use Rattle.bfs_stream.proofs.Placed.{last_is, ends_are, length-places, told_inode}
use Rattle.bfs_stream.proofs.stream.Stream.reach.Goals as goal

pub returns-in-Ok-get-clause-reach : goal.returns-in-Ok-get-clause-reach
returns-in-Ok-get-clause-reach g c m is some =
    let o = c.args.self.now in
    let id : c.self.inside.inode ≡ o.id = ap (λ (x : Origin). x.id) c.self.view_is in
    let of : AreOfBlock (g.B.Blocks.told c.args.under.now) o.id c.get.new.into = subst (λ (k : ℕ). AreOfBlock (g.B.Blocks.told c.args.under.now) k c.get.new.into) id c.in-Ok-get.ensures.bytes in
    let same = read_is m (g.B.Blocks.told c.args.under.now) o.id c.get.new.into is some of in
    let read : c.deref.result.now ≡ contents m o.id = c.deref.ensures.value ∙ with_items_is c.in-Ok.bytes c.get.new.into (let a = c.get.auto.into in let b = c.deref_mut.ensures.len in let d = c.deref_mut.ensures.value in let e = c.in-Ok.bytes.ok in omega (arith, a, b)) ∙ same in
    c.ends.ensures ∙ ap (λ (l : List ℕ). ends_of o.sizes (stream_at l)) read

pub returns-in-Ok-get-clause-blocks : goal.returns-in-Ok-get-clause-blocks
returns-in-Ok-get-clause-blocks g c m is stands =
    let o = c.args.self.now in
    let id : c.self.inside.inode ≡ o.id = ap (λ (x : Origin). x.id) c.self.view_is in
    let of : AreOfBlock (g.B.Blocks.told c.args.under.now) o.id c.get.new.into = subst (λ (k : ℕ). AreOfBlock (g.B.Blocks.told c.args.under.now) k c.get.new.into) id c.in-Ok-get.ensures.bytes in
    let same = read_is m (g.B.Blocks.told c.args.under.now) o.id c.get.new.into is (told_inode m o stands) of in
    let read : c.deref.result.now ≡ contents m o.id = c.deref.ensures.value ∙ with_items_is c.in-Ok.bytes c.get.new.into (let a = c.get.auto.into in let b = c.deref_mut.ensures.len in let d = c.deref_mut.ensures.value in let e = c.in-Ok.bytes.ok in omega (arith, a, b)) ∙ same in
    let ends = ends_of o.sizes (fields o.sizes (contents m) o.id) in
    let are = ends_are o.sizes (contents m) o.id c.sizes.ensures.sizes stands.sound in
    ap last_end (c.ends.ensures ∙ ap (λ (l : List ℕ). ends_of o.sizes (stream_at l)) read)
    ∙ last_is ends.direct ends.indirect ends.double (length (direct_blocks o.sizes (contents m) o.id)) (length (indirect_blocks o.sizes (contents m) o.id)) (length (double_blocks o.sizes (contents m) o.id)) are.direct are.indirect are.double are.order
    ∙ sym (length-places o.sizes (contents m) o.id)
