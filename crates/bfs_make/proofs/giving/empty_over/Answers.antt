use Rattle.std.proofs.Common.{◌≡◌, ◌∙◌, ◌⊎◌, inl, inr, pos, ℕ, List, Bool, Some, true, sym, ap, subst}
use Rattle.std.specs.Option.{option_map}
use Rattle.bfs_inode.specs.Inode.{stream_at}
use Rattle.bfs_txn.specs.Told.{with_block, with_number}
use Rattle.bfs_stream.specs.Told.{contents}
use Rattle.bfs_stream.proofs.Arrays.{read_is}
use Rattle.bfs_stream.proofs.Placed.{told_inode}
use Rattle.bfs_stream.proofs.Writes.{number_set}
use Rattle.bfs_stream_pages.specs.Moves.{KeepsInode}
use Rattle.bfs_make.specs.Sites.{stream_in}
use Rattle.bfs_make.proofs.Emptying.{has_emptied}
use Rattle.bfs_make.proofs.giving.empty_over.Goals as goal

pub returns-in-Ok-set-clause-emptied : goal.returns-in-Ok-set-clause-emptied
returns-in-Ok-set-clause-emptied g c v m is owns =
    let o = stream_in c.args.site c.args.id in
    let read : c.get.new.into ≡ contents m c.args.id = read_is m (g.E.Blocks.told c.args.edits.now) c.args.id c.get.new.into is (told_inode m o owns.stands) c.in-Ok.ensures.bytes in
    let stream : stream_at c.clear_size.new.block ≡ record (stream_at (contents m c.args.id)) { size = pos 0 } = c.clear_size.ensures.stream ∙ ap (λ (b : List ℕ). record (stream_at b) { size = pos 0 }) read in
    let inode : KeepsInode (contents m c.args.id) c.clear_size.new.block = subst (λ (b : List ℕ). KeepsInode b c.clear_size.new.block) read c.clear_size.ensures.inode in
    let told : g.E.Blocks.told c.set.new.self ≡ Some (with_block c.args.id c.clear_size.new.block m) = c.in-Ok-set.ensures.told ∙ ap (option_map (with_block c.args.id c.clear_size.new.block)) (c.in-Ok.ensures.told ∙ is) in
    has_emptied o v m owns c.clear_size.new.block stream inode (g.E.Blocks.told c.set.new.self) told (g.E.Blocks.changed c.args.edits.now) (g.E.Blocks.changed c.set.new.self)
    (λ k. c.in-Ok-set.ensures.changed k ∙ ap (λ (f : ℕ → Bool). with_number c.args.id f k) c.in-Ok.ensures.changed)

pub returns-in-Ok-set-clause-changed : goal.returns-in-Ok-set-clause-changed
returns-in-Ok-set-clause-changed g c k e = number_set c.args.id (g.E.Blocks.changed c.args.edits.now) k (sym (c.in-Ok-set.ensures.changed k ∙ ap (λ (f : ℕ → Bool). with_number c.args.id f k) c.in-Ok.ensures.changed) ∙ e)
