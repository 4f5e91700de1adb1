use Rattle.std.proofs.Common.{◌∙◌, ℕ, sym, ap, arith}
use Rattle.bfs_txn.specs.Pages.{page_at}
use Rattle.bfs_stream_pages.specs.Held.{stream_of}
use Rattle.bfs_stream_pages.specs.GoesLaws.{reads_fits}
use Rattle.bfs_stream_pages.proofs.Paged.{index_inside, page_inside}
use Rattle.bfs_stream_pages.proofs.Readers.{reader_page, reader_cause}
use Rattle.std.proofs.Props.{props}
use Rattle.std.proofs.Math.Logic.{∥∥₁_elim}
use Rattle.bfs_stream_pages.proofs.reader.StreamReaderPages.get.Goals as goal

pub get_page-requires-clause-inode : goal.get_page-requires-clause-inode
get_page-requires-clause-inode g c b is = let s = c.args.self.now in (s.inode_long b is, λ m told a there. ∥∥₁_elim (s.inode_is m told) (Prim.hlevel props) (λ h. h.is b is a there))

pub returns-clause-page : goal.returns-clause-page
returns-clause-page g c =
    let s = c.args.self.now in
    reader_page s.backing s.length (g.B.Blocks.told s.under.now) s.held c.args.at c.get_page.new.into
    (λ m is h.
    let low = page_inside c.args.at s.length c.requires.whole s.whole c.requires.inside in
    let at = c.place-index.ensures.at in
    c.in-Ok.ensures.page s.length m is h (omega (arith, low, at)) ∙ ap (λ (k : ℕ). page_at (stream_of s.backing m) k) (sym at))

pub returns-in-Err-clause-cause : goal.returns-in-Err-clause-cause
returns-in-Err-clause-cause g c =
    let s = c.args.self.now in
    reader_cause s.backing s.length (g.B.Blocks.told s.under.now) (g.B.Blocks.counts s.under.now) (g.B.Blocks.counts c.get_page.new.under) c.in-Err.fault s.held c.in-Err.ensures.block c.in-Err.ensures.cause
    (λ m is h. c.in-Err.ensures.sound m is h.stands (index_inside s.backing.sizes.block_size c.args.at c.place-index.result.0 c.place-index.result.1 s.length _ c.place-index.ensures.at c.requires.inside (reads_fits s.backing s.length m h)))
