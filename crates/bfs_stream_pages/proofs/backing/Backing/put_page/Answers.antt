use Rattle.std.proofs.Common.{◌≡◌, ◌∙◌, ℕ, Bool, Some, ap, arith}
use Rattle.std.specs.Option.{option_map}
use Rattle.bfs_txn.specs.Told.{AreSized, with_block, with_number}
use Rattle.bfs_txn.specs.Pages.{with_page}
use Rattle.bfs_stream.specs.Told.{contents}
use Rattle.bfs_stream_pages.specs.GoesLaws.{sized_of}
use Rattle.bfs_stream_pages.proofs.Writing.{has_written}
use Rattle.bfs_stream_pages.proofs.backing.Backing.put_page.Goals as goal

pub returns-clause-written : goal.returns-clause-written
returns-clause-written g c v long m is held inside =
    let o = c.args.self.now in
    let sized : AreSized o.sizes.block_size (Some m) = sized_of o.sizes.block_size (g.E.Blocks.size c.args.edits.now) (g.E.Blocks.told c.args.edits.now) m c.requires.size is (g.met.E.Blocks.sized c.args.edits.now) in
    let found = c.in-Ok.ensures.made m is held.owns.stands held.told in
    let bytes : c.with.new.block ≡ with_page c.args.start c.args.from.now (contents m c.in-Ok.number) = found.1 in
    let told : g.E.Blocks.told c.set.new.self ≡ Some (with_block c.in-Ok.number c.with.new.block m) = c.in-Ok-set.ensures.told ∙ ap (option_map (with_block c.in-Ok.number c.with.new.block)) (c.in-Ok.ensures.told ∙ is) in
    has_written o v long m held sized c.args.index c.args.start c.in-Ok.number c.args.from.now c.with.new.block found.0 (let a = c.requires.page in let b = c.requires.inside in omega (arith, a, b)) bytes
    (g.E.Blocks.told c.set.new.self) told (g.E.Blocks.changed c.args.edits.now) (g.E.Blocks.changed c.set.new.self)
    (λ k. c.in-Ok-set.ensures.changed k ∙ ap (λ (f : ℕ → Bool). with_number c.in-Ok.number f k) c.in-Ok.ensures.changed)
