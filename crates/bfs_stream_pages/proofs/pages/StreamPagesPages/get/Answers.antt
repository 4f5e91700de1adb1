use Rattle.std.proofs.Common.{◌∙◌, ℕ, refl, sym, ap, arith}
use Rattle.bfs_txn.specs.Pages.{page_at}
use Rattle.bfs_stream_pages.specs.Held.{known, stream_of}
use Rattle.bfs_stream_pages.specs.GoesLaws.{goes_same, long_fits, readable, read_same, read_quiet}
use Rattle.bfs_stream_pages.proofs.Paged.{failed_block, noted_block, goes_quiet, goes_failed, has_cause, failed_now, undamaged_is, index_inside, page_inside, page_told}
use Rattle.std.proofs.Props.{props}
use Rattle.std.proofs.Math.Logic.{∥∥₁_elim}
use Rattle.bfs_stream_pages.proofs.pages.StreamPagesPages.get.Goals as goal

pub get_page-requires-clause-inode : goal.get_page-requires-clause-inode
get_page-requires-clause-inode g c b is = let s = c.args.self.now in (s.inode_long b is, λ m told a there. ∥∥₁_elim (s.inode_is m told) (Prim.hlevel props) (λ h. h.is b is a there))

pub returns-in-Err-clause-goes_on : goal.returns-in-Err-clause-goes_on
returns-in-Err-clause-goes_on g c = let s = c.args.self.now in (refl, refl, goes_same s.backing s.bitmap.now s.length (known s.failed (g.E.Blocks.told s.start.value) (g.E.Blocks.told s.edits.now)) s.failed (g.E.Blocks.changed s.edits.now) (g.E.Blocks.counts s.edits.now), refl)

pub returns-in-Err-clause-cause : goal.returns-in-Err-clause-cause
returns-in-Err-clause-cause g c = let s = c.args.self.now in (goes_failed s.backing s.bitmap.now s.length (known s.failed (g.E.Blocks.told s.start.value) (g.E.Blocks.told s.edits.now)) s.failed (g.E.Blocks.counts s.edits.now) c.in-Err.fault c.in-Err.ensures.again, failed_block s.fixed s.failed c.in-Err.fault s.unfailed c.in-Err.ensures.again, noted_block s.failed c.in-Err.fault c.in-Err.fault c.in-Err.ensures.again)

pub returns-in-Err-get_page-clause-goes_on : goal.returns-in-Err-get_page-clause-goes_on
returns-in-Err-get_page-clause-goes_on g c =
    let s = c.args.self.now in (
      c.get_page.ensures.same,
      c.get_page.ensures.frame,
      goes_quiet s.backing s.bitmap.now s.length s.failed (g.E.Blocks.told s.start.value) (g.E.Blocks.told s.edits.now) (g.E.Blocks.told c.get_page.new.under) (g.E.Blocks.changed s.edits.now) (g.E.Blocks.changed c.get_page.new.under) (g.E.Blocks.counts s.edits.now) (g.E.Blocks.counts c.get_page.new.under)
          c.in-Ok.ensures.none c.get_page.ensures.told c.get_page.ensures.changed c.get_page.ensures.later,
      refl,
    )

pub returns-in-Err-get_page-clause-cause : goal.returns-in-Err-get_page-clause-cause
returns-in-Err-get_page-clause-cause g c =
    let s = c.args.self.now in (
      has_cause s.backing s.bitmap.now s.length s.failed (g.E.Blocks.told s.start.value) (g.E.Blocks.told s.edits.now) (g.E.Blocks.counts s.edits.now) (g.E.Blocks.counts c.get_page.new.under) c.in-Err-get_page.fault c.in-Ok.ensures.none c.in-Err-get_page.ensures.cause
          (λ m is h. failed_now s.backing s.bitmap.now s.length m c.in-Err-get_page.fault h
          (undamaged_is s.backing s.bitmap.now m c.in-Err-get_page.fault
          (c.in-Err-get_page.ensures.sound m is h.owns.stands (index_inside s.backing.sizes.block_size c.args.at c.place-index.result.0 c.place-index.result.1 s.length _ c.place-index.ensures.at c.requires.inside (long_fits s.backing s.bitmap.now s.length m h))))),
      λ is. c.in-Err-get_page.ensures.block,
      λ is. c.in-Err-get_page.ensures.block,
    )

pub returns-clause-goes_on : goal.returns-clause-goes_on
returns-clause-goes_on g c =
    let s = c.args.self.now in (
      c.get_page.ensures.same,
      c.get_page.ensures.frame,
      goes_quiet s.backing s.bitmap.now s.length s.failed (g.E.Blocks.told s.start.value) (g.E.Blocks.told s.edits.now) (g.E.Blocks.told c.get_page.new.under) (g.E.Blocks.changed s.edits.now) (g.E.Blocks.changed c.get_page.new.under) (g.E.Blocks.counts s.edits.now) (g.E.Blocks.counts c.get_page.new.under)
          c.in-Ok.ensures.none c.get_page.ensures.told c.get_page.ensures.changed c.get_page.ensures.later,
      refl,
    )

pub returns-clause-page : goal.returns-clause-page
returns-clause-page g c =
    let s = c.args.self.now in
    page_told s.backing s.bitmap.now s.length s.failed (g.E.Blocks.told s.start.value) (g.E.Blocks.told s.edits.now) s.tells s.held c.args.at c.get_page.new.into
    (λ m is h.
    let low = page_inside c.args.at s.length c.requires.whole s.whole c.requires.inside in
    let at = c.place-index.ensures.at in
    c.in-Ok-get_page.ensures.page s.length m is (readable s.backing s.bitmap.now s.length m h) (omega (arith, low, at)) ∙ ap (λ (k : ℕ). page_at (stream_of s.backing m) k) (sym at))

pub returns-in-Err-clause-is_read : goal.returns-in-Err-clause-is_read
returns-in-Err-clause-is_read g c = let s = c.args.self.now in (refl, refl, refl, refl, refl, read_same s.bitmap.now s.length (g.E.Blocks.told s.edits.now) s.failed (g.E.Blocks.changed s.edits.now) (g.E.Blocks.pairs s.edits.now) (g.E.Blocks.counts s.edits.now), refl)

pub returns-in-Err-get_page-clause-is_read : goal.returns-in-Err-get_page-clause-is_read
returns-in-Err-get_page-clause-is_read g c = let s = c.args.self.now in (c.get_page.ensures.same, refl, c.get_page.ensures.frame, refl, refl, read_quiet s.bitmap.now s.length s.failed (g.E.Blocks.told s.edits.now) (g.E.Blocks.told c.get_page.new.under) (g.E.Blocks.changed s.edits.now) (g.E.Blocks.changed c.get_page.new.under) (g.E.Blocks.pairs s.edits.now) (g.E.Blocks.pairs c.get_page.new.under) (g.E.Blocks.counts s.edits.now) (g.E.Blocks.counts c.get_page.new.under) c.in-Ok.ensures.none c.get_page.ensures.told c.get_page.ensures.changed c.get_page.ensures.pairs c.get_page.ensures.later, refl)

pub returns-clause-is_read : goal.returns-clause-is_read
returns-clause-is_read g c = let s = c.args.self.now in (c.get_page.ensures.same, refl, c.get_page.ensures.frame, refl, refl, read_quiet s.bitmap.now s.length s.failed (g.E.Blocks.told s.edits.now) (g.E.Blocks.told c.get_page.new.under) (g.E.Blocks.changed s.edits.now) (g.E.Blocks.changed c.get_page.new.under) (g.E.Blocks.pairs s.edits.now) (g.E.Blocks.pairs c.get_page.new.under) (g.E.Blocks.counts s.edits.now) (g.E.Blocks.counts c.get_page.new.under) c.in-Ok.ensures.none c.get_page.ensures.told c.get_page.ensures.changed c.get_page.ensures.pairs c.get_page.ensures.later, refl)
