use Rattle.std.proofs.Common.{◌≡◌, ◌∙◌, pos, ℕ, List, Bool, Some, ap, subst}
use Rattle.std.specs.Option.{option_map}
use Rattle.bfs_inode.specs.Inode.{stream_at}
use Rattle.bfs_txn.specs.Told.{AreOfBlock, with_block, with_number}
use Rattle.bfs_stream.specs.Sizes.{Origin}
use Rattle.bfs_stream.specs.Told.{contents}
use Rattle.bfs_stream.proofs.Arrays.{read_is}
use Rattle.bfs_stream.proofs.Placed.{told_inode}
use Rattle.bfs_stream_pages.specs.Moves.{KeepsInode}
use Rattle.bfs_stream_pages.proofs.Writing.{has_size}
use Rattle.bfs_stream_pages.proofs.backing.Backing.put_size.Goals as goal

pub returns-clause-written : goal.returns-clause-written
returns-clause-written g c v long m is held fits =
    let o = c.args.self.now in
    let id : c.self.inside.inode ≡ o.id = c.self.invariant.0 ∙ ap (λ (x : Origin). x.id) c.self.view_is in
    let of : AreOfBlock (g.E.Blocks.told c.args.edits.now) o.id c.get.new.into = subst (λ (k : ℕ). AreOfBlock (g.E.Blocks.told c.args.edits.now) k c.get.new.into) id c.in-Ok.ensures.bytes in
    let read : c.get.new.into ≡ contents m o.id = read_is m (g.E.Blocks.told c.args.edits.now) o.id c.get.new.into is (told_inode m o held.owns.stands) of in
    let stream : stream_at c.set_size.new.block ≡ record (stream_at (contents m o.id)) { size = pos c.args.bytes } =
    c.set_size.ensures.stream ∙ ap (λ (b : List ℕ). record (stream_at b) { size = pos c.args.bytes }) read in
    let inode : KeepsInode (contents m o.id) c.set_size.new.block = subst (λ (b : List ℕ). KeepsInode b c.set_size.new.block) read c.set_size.ensures.inode in
    let told : g.E.Blocks.told c.set.new.self ≡ Some (with_block o.id c.set_size.new.block m) =
    c.in-Ok-set.ensures.told ∙ ap (λ (k : ℕ). option_map (with_block k c.set_size.new.block) (g.E.Blocks.told c.get.new.self)) id ∙ ap (option_map (with_block o.id c.set_size.new.block)) (c.in-Ok.ensures.told ∙ is) in
    has_size o v long c.args.bytes m held c.set_size.new.block fits stream inode (g.E.Blocks.told c.set.new.self) told (g.E.Blocks.changed c.args.edits.now) (g.E.Blocks.changed c.set.new.self)
    (λ k. c.in-Ok-set.ensures.changed k ∙ ap (λ (n : ℕ). with_number n (g.E.Blocks.changed c.get.new.self) k) id ∙ ap (λ (f : ℕ → Bool). with_number o.id f k) c.in-Ok.ensures.changed)
