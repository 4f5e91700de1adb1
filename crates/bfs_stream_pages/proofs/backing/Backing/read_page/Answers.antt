use Rattle.std.proofs.Common.{◌∙◌, ℕ, List, Option, Some, take, drop, ap, sym}
use Rattle.bfs_txn.specs.Pages.{seen_page}
use Rattle.bfs_txn.specs.Told.{AreSized}
use Rattle.bfs_stream_pages.specs.GoesLaws.{sized_of}
use Rattle.bfs_stream_pages.proofs.Paged.{page_read}
use Rattle.bfs_stream_pages.proofs.backing.Backing.read_page.Goals as goal

pub returns-clause-page : goal.returns-clause-page
returns-clause-page g c long m is held low =
    let o = c.args.self.now in
    let sized : AreSized o.sizes.block_size (Some m) = sized_of o.sizes.block_size (g.B.Blocks.size c.args.under.now) (g.B.Blocks.told c.args.under.now) m c.requires.size is (g.met.B.Blocks.sized c.args.under.now) in
    let found = c.in-Ok.ensures.found m is held.stands held.told in
    c.take_part.ensures.part ∙ ap (λ (n : ℕ). take n (drop c.args.start c.load.new.block)) c.requires.page ∙ ap (λ (b : List ℕ). take 1024 (drop c.args.start b)) found.1
    ∙ page_read o long m held sized c.args.index c.args.start c.in-Ok.field-0 1024 found.0 c.requires.inside low

pub returns-clause-seen : goal.returns-clause-seen
returns-clause-seen g c =
    ap (λ (o : Option (ℕ × List ℕ)). seen_page c.args.start o) c.in-Ok.ensures.last ∙ sym (c.take_part.ensures.part ∙ ap (λ (n : ℕ). take n (drop c.args.start c.load.new.block)) c.requires.page)
