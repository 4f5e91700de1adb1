use Rattle.std.proofs.Common.{rules, ◌≡◌, ◌≤◌, ◌∙◌, ℕ, List, length, Option, inr, refl, ap, sym, subst, arith}
use Rattle.std.proofs.lemmas.List.{with_items_is}
use Rattle.bfs_inode.specs.Inode.{stream_at}
use Rattle.bfs_stream.specs.Told.{contents}
use Rattle.bfs_stream.proofs.Arrays.{read_is}
use Rattle.bfs_stream_pages.specs.Held.{AreBytesOf}
use Rattle.bfs_stream_pages.proofs.Keeping.{of_read, lent}
use Rattle.bfs_maps.specs.Mapped.{origin_of}
use Rattle.bfs_maps.proofs.Sized.{large_block}
use Rattle.bfs_maps.proofs.size.stream_size.Goals as goal

pub size_in-requires : goal.size_in-requires
size_in-requires g c =
    let e : length c.deref.result.now ≡ c.args.tree.sup.block_size = search rules in
    let v = c.requires.valid.block_size in
    let large : 1024 ≤ c.args.tree.sup.block_size = large_block c.args.tree.sup.block_size c.args.tree.sup.block_shift v.0 v.2 in
    omega (arith, e, large)

pub returns-in-Some-clause-found : goal.returns-in-Some-clause-found
returns-in-Some-clause-found g c m is some =
    let read : c.deref.result.now ≡ contents m c.args.tree.inode =
    c.deref.ensures.value ∙ with_items_is c.in-Ok.bytes c.get.new.into (let a = c.get.auto.into in let b = c.deref_mut.ensures.len in let d = c.deref_mut.ensures.value in let e = c.in-Ok.bytes.ok in omega (arith, a, b))
    ∙ read_is m (g.B.Blocks.told c.args.under.now) c.args.tree.inode c.get.new.into is some c.in-Ok-get.ensures.bytes in
    ap (λ (b : List ℕ). (stream_at b).size) (sym read) ∙ c.in-Some.ensures.is.0

pub returns-in-None-clause-refused : goal.returns-in-None-clause-refused
returns-in-None-clause-refused g c m is some =
    let read : c.deref.result.now ≡ contents m c.args.tree.inode =
    c.deref.ensures.value ∙ with_items_is c.in-Ok.bytes c.get.new.into (let a = c.get.auto.into in let b = c.deref_mut.ensures.len in let d = c.deref_mut.ensures.value in let e = c.in-Ok.bytes.ok in omega (arith, a, b))
    ∙ read_is m (g.B.Blocks.told c.args.under.now) c.args.tree.inode c.get.new.into is some c.in-Ok-get.ensures.bytes in
    inr (refl, λ n size whole. c.size_in.ensures.none c.in-None.is n (ap (λ (b : List ℕ). (stream_at b).size) read ∙ size) whole)

pub returns-in-Some-clause-inode : goal.returns-in-Some-clause-inode
returns-in-Some-clause-inode g c =
    let same = with_items_is c.in-Ok.bytes c.get.new.into (let a = c.get.auto.into in let b = c.deref_mut.ensures.len in let d = c.deref_mut.ensures.value in let e = c.in-Ok.bytes.ok in omega (arith, a, b)) in
    let e : length c.deref.result.now ≡ c.args.tree.sup.block_size = search rules in
    let v = c.requires.valid.block_size in
    let large : 1024 ≤ c.args.tree.sup.block_size = large_block c.args.tree.sup.block_size c.args.tree.sup.block_shift v.0 v.2 in
    let bytes : AreBytesOf (g.B.Blocks.told c.args.under.now) c.args.tree.inode c.deref.result.now =
    subst (λ (b : List ℕ). AreBytesOf (g.B.Blocks.told c.args.under.now) c.args.tree.inode b) (sym (c.deref.ensures.value ∙ same)) (of_read (g.B.Blocks.told c.args.under.now) c.args.tree.inode c.get.new.into c.in-Ok-get.ensures.bytes) in
    let now : AreBytesOf (g.B.Blocks.told c.get.new.self) c.args.tree.inode c.deref.result.now =
    subst (λ (t : Option (ℕ → Option (List ℕ))). AreBytesOf t c.args.tree.inode c.deref.result.now) (sym c.in-Ok-get.ensures.told) bytes in
    lent (origin_of c.args.tree) (g.B.Blocks.told c.get.new.self) c.deref.result.now _ (sym c.deref.ensures.value) (omega (arith, e, large), now)
