use Rattle.std.proofs.Common.{◌≤◌, ◌+◌, ◌*◌, ◌∙◌, ℕ, length, Some, refl, sym, ap, subst, arith}
use Rattle.std.specs.Option.{option_map}
use Rattle.bfs_txn.specs.Told.{AreSized}
use Rattle.bfs_txn.specs.Pages.{with_page}
use Rattle.bfs_stream.specs.Sizes.{Origin}
use Rattle.bfs_stream_pages.specs.Held.{Held, known, stream_of}
use Rattle.bfs_stream_pages.specs.GoesLaws.{goes_same, long_fits, sized_of}
use Rattle.bfs_stream_pages.proofs.Paged.{failed_block, noted_block, memory_block, goes_quiet, goes_failed, none_failed, either_comes, memory_page, has_cause, failed_now, undamaged_is, index_inside, page_inside, changed_low, page_written, now_moved, now_held, now_tells, now_told}
use Rattle.std.proofs.Props.{props}
use Rattle.std.proofs.Math.Logic.{∥∥₁_elim}
use Rattle.bfs_stream_pages.proofs.pages.StreamPagesPages.set.Goals as goal

pub put_page-requires-clause-inode : goal.put_page-requires-clause-inode
put_page-requires-clause-inode g c b is = let s = c.args.self.now in (s.inode_long b is, λ m told a there. ∥∥₁_elim (s.inode_is m told) (Prim.hlevel props) (λ h. h.is b is a there))

pub returns-in-Err-clause-goes_on : goal.returns-in-Err-clause-goes_on
returns-in-Err-clause-goes_on g c = let s = c.args.self.now in (refl, refl, goes_same s.backing s.bitmap.now s.length (known s.failed (g.E.Blocks.told s.start.value) (g.E.Blocks.told s.edits.now)) s.failed (g.E.Blocks.changed s.edits.now) (g.E.Blocks.counts s.edits.now), refl)

pub returns-in-Err-clause-cause : goal.returns-in-Err-clause-cause
returns-in-Err-clause-cause g c = let s = c.args.self.now in (goes_failed s.backing s.bitmap.now s.length (known s.failed (g.E.Blocks.told s.start.value) (g.E.Blocks.told s.edits.now)) s.failed (g.E.Blocks.counts s.edits.now) c.in-Err.fault c.in-Err.ensures.again, failed_block s.fixed s.failed c.in-Err.fault s.unfailed c.in-Err.ensures.again, noted_block s.failed c.in-Err.fault c.in-Err.fault c.in-Err.ensures.again)

pub returns-in-Err-buffer-clause-goes_on : goal.returns-in-Err-buffer-clause-goes_on
returns-in-Err-buffer-clause-goes_on g c =
    let s = c.args.self.now in (
      refl,
      refl,
      goes_quiet s.backing s.bitmap.now s.length s.failed (g.E.Blocks.told s.start.value) (g.E.Blocks.told s.edits.now) (g.E.Blocks.told s.edits.now) (g.E.Blocks.changed s.edits.now) (g.E.Blocks.changed s.edits.now) (g.E.Blocks.counts s.edits.now) (g.E.Blocks.counts s.edits.now) c.in-Ok.ensures.none refl refl
          (record { faults = omega arith; stops = refl; stop = refl }),
      refl,
    )

pub returns-in-Err-buffer-clause-cause : goal.returns-in-Err-buffer-clause-cause
returns-in-Err-buffer-clause-cause g c = let s = c.args.self.now in (memory_page s.backing s.bitmap.now s.length s.failed (g.E.Blocks.told s.start.value) (g.E.Blocks.told s.edits.now) (g.E.Blocks.counts s.edits.now) c.in-Err-buffer.fault c.in-Ok.ensures.none c.in-Err-buffer.ensures.fault, λ is. memory_block c.in-Err-buffer.fault c.in-Err-buffer.ensures.fault, λ is. memory_block c.in-Err-buffer.fault c.in-Err-buffer.ensures.fault)

pub returns-in-Err-put_page-clause-goes_on : goal.returns-in-Err-put_page-clause-goes_on
returns-in-Err-put_page-clause-goes_on g c =
    let s = c.args.self.now in (
      c.put_page.ensures.same,
      c.put_page.ensures.frame,
      goes_quiet s.backing s.bitmap.now s.length s.failed (g.E.Blocks.told s.start.value) (g.E.Blocks.told s.edits.now) (g.E.Blocks.told c.put_page.new.edits) (g.E.Blocks.changed s.edits.now) (g.E.Blocks.changed c.put_page.new.edits) (g.E.Blocks.counts s.edits.now) (g.E.Blocks.counts c.put_page.new.edits)
          c.in-Ok.ensures.none c.in-Err-put_page.ensures.kept.0 c.in-Err-put_page.ensures.kept.1 c.put_page.ensures.later,
      refl,
    )

pub returns-in-Err-put_page-clause-cause : goal.returns-in-Err-put_page-clause-cause
returns-in-Err-put_page-clause-cause g c =
    let s = c.args.self.now in (
      has_cause s.backing s.bitmap.now s.length s.failed (g.E.Blocks.told s.start.value) (g.E.Blocks.told s.edits.now) (g.E.Blocks.counts s.edits.now) (g.E.Blocks.counts c.put_page.new.edits) c.in-Err-put_page.fault c.in-Ok.ensures.none c.in-Err-put_page.ensures.cause
          (λ m is h. failed_now s.backing s.bitmap.now s.length m c.in-Err-put_page.fault h
          (undamaged_is s.backing s.bitmap.now m c.in-Err-put_page.fault
          (c.in-Err-put_page.ensures.sound s.bitmap.now s.length m is h (index_inside s.backing.sizes.block_size c.args.at c.place-index.result.0 c.place-index.result.1 s.length _ c.place-index.ensures.at c.requires.inside (long_fits s.backing s.bitmap.now s.length m h))))),
      λ is. c.in-Err-put_page.ensures.block,
      λ is. c.in-Err-put_page.ensures.block,
    )

pub invariant_of-self-clause-tells : goal.invariant_of-self-clause-tells
invariant_of-self-clause-tells g c =
    let s = c.args.self.now in
    now_tells s.backing s.bitmap.now s.bitmap.now s.length s.length s.failed (g.E.Blocks.told s.start.value) (g.E.Blocks.told s.edits.now) (g.E.Blocks.told c.put_page.new.edits) (g.E.Blocks.changed s.edits.now) (g.E.Blocks.changed c.put_page.new.edits) s.tells s.held
    (λ m is h. either_comes s.backing s.bitmap.now s.length m (s.backing.sizes.block_size * c.place-index.result.0 + c.place-index.result.1) c.args.from.now (g.E.Blocks.told s.edits.now) (g.E.Blocks.told c.put_page.new.edits) (g.E.Blocks.changed s.edits.now) (g.E.Blocks.changed c.put_page.new.edits) c.put_page.result
    (c.put_page.ensures.written s.bitmap.now s.length m is h (index_inside s.backing.sizes.block_size c.args.at c.place-index.result.0 c.place-index.result.1 s.length _ c.place-index.ensures.at c.requires.inside (long_fits s.backing s.bitmap.now s.length m h))) c.put_page.ensures.kept is h)

pub invariant_of-self-clause-held : goal.invariant_of-self-clause-held
invariant_of-self-clause-held g c m is =
    let s = c.args.self.now in
    subst (λ (o : Origin). ∥ Held o s.bitmap.now s.length m ∥₁) (sym c.put_page.ensures.same)
    (now_held s.backing s.bitmap.now s.bitmap.now s.length s.length s.failed (g.E.Blocks.told s.start.value) (g.E.Blocks.told s.edits.now) (g.E.Blocks.told c.put_page.new.edits) (g.E.Blocks.changed s.edits.now) (g.E.Blocks.changed c.put_page.new.edits) s.tells s.held
    (λ m is h. either_comes s.backing s.bitmap.now s.length m (s.backing.sizes.block_size * c.place-index.result.0 + c.place-index.result.1) c.args.from.now (g.E.Blocks.told s.edits.now) (g.E.Blocks.told c.put_page.new.edits) (g.E.Blocks.changed s.edits.now) (g.E.Blocks.changed c.put_page.new.edits) c.put_page.result
    (c.put_page.ensures.written s.bitmap.now s.length m is h (index_inside s.backing.sizes.block_size c.args.at c.place-index.result.0 c.place-index.result.1 s.length _ c.place-index.ensures.at c.requires.inside (long_fits s.backing s.bitmap.now s.length m h))) c.put_page.ensures.kept is h) m is)

pub returns-clause-told : goal.returns-clause-told
returns-clause-told g c =
    let s = c.args.self.now in
    let low : c.args.at + length c.args.from.now ≤ s.length = let a = page_inside c.args.at s.length c.requires.whole s.whole c.requires.inside in let b = c.requires.page in omega (arith, a, b) in
    ap (λ (o : Origin). option_map (stream_of o) (known s.failed (g.E.Blocks.told s.start.value) (g.E.Blocks.told c.put_page.new.edits))) c.put_page.ensures.same
    ∙ now_told s.backing s.bitmap.now s.bitmap.now s.length s.length s.failed (g.E.Blocks.told s.start.value) (g.E.Blocks.told s.edits.now) (g.E.Blocks.told c.put_page.new.edits) (g.E.Blocks.changed s.edits.now) (g.E.Blocks.changed c.put_page.new.edits) s.tells s.held
    (λ m is h. (c.in-Ok-put_page.ensures.written s.bitmap.now s.length m is h (index_inside s.backing.sizes.block_size c.args.at c.place-index.result.0 c.place-index.result.1 s.length _ c.place-index.ensures.at c.requires.inside (long_fits s.backing s.bitmap.now s.length m h))).comes)
    (with_page c.args.at c.args.from.now)
    (λ m is h.
    let sized : AreSized s.backing.sizes.block_size (Some m) = sized_of s.backing.sizes.block_size (g.E.Blocks.size s.edits.now) (g.E.Blocks.told s.edits.now) m s.size is (g.met.E.Blocks.sized s.edits.now) in
    let at = c.place-index.ensures.at in
    page_written s.backing s.bitmap.now s.length m h sized (s.backing.sizes.block_size * c.place-index.result.0 + c.place-index.result.1) c.args.from.now (g.E.Blocks.told c.put_page.new.edits) (g.E.Blocks.changed s.edits.now) (g.E.Blocks.changed c.put_page.new.edits)
    (c.in-Ok-put_page.ensures.written s.bitmap.now s.length m is h (index_inside s.backing.sizes.block_size c.args.at c.place-index.result.0 c.place-index.result.1 s.length _ at c.requires.inside (long_fits s.backing s.bitmap.now s.length m h))) (omega (arith, low, at))
    ∙ ap (λ (k : ℕ). with_page k c.args.from.now (stream_of s.backing m)) (sym at))

pub returns-clause-goes_on : goal.returns-clause-goes_on
returns-clause-goes_on g c =
    let s = c.args.self.now in (
      c.put_page.ensures.same,
      c.put_page.ensures.frame,
      record {
        rest = refl;
        moved = now_moved s.backing s.bitmap.now s.bitmap.now s.length s.length s.failed (g.E.Blocks.told s.start.value) (g.E.Blocks.told s.edits.now) (g.E.Blocks.told c.put_page.new.edits) (g.E.Blocks.changed s.edits.now) (g.E.Blocks.changed c.put_page.new.edits) s.tells s.held
            (λ m is h. (c.in-Ok-put_page.ensures.written s.bitmap.now s.length m is h (index_inside s.backing.sizes.block_size c.args.at c.place-index.result.0 c.place-index.result.1 s.length _ c.place-index.ensures.at c.requires.inside (long_fits s.backing s.bitmap.now s.length m h))).comes);
        fault = none_failed s.backing s.bitmap.now s.length (known s.failed (g.E.Blocks.told s.start.value) (g.E.Blocks.told s.edits.now)) s.failed (g.E.Blocks.counts s.edits.now) (g.E.Blocks.counts c.put_page.new.edits) c.in-Ok.ensures.none;
        changed = changed_low s.backing s.bitmap.now (g.E.Blocks.changed s.edits.now) (g.E.Blocks.changed c.put_page.new.edits) c.put_page.ensures.changed;
        stays = c.put_page.ensures.stays;
        later = c.put_page.ensures.later;
      },
      refl,
    )
