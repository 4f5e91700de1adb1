use Rattle.std.proofs.Common.{◌+◌, ◌++◌, ◌∙◌, ℕ, List, Some, refl, sym, ap, subst, arith}
use Rattle.std.specs.Option.{option_map}
use Rattle.bfs_stream.specs.Sizes.{Origin}
use Rattle.bfs_stream_pages.specs.Held.{Held, known, stream_of}
use Rattle.bfs_stream_pages.specs.Goes.{HasMoved}
use Rattle.bfs_stream_pages.specs.GoesLaws.{goes_same}
use Rattle.bfs_stream_pages.proofs.Paged.{failed_block, noted_block, memory_block, open_block, goes_quiet, goes_failed, none_failed, now_failed, memory_page, has_cause, goes_lost, now_moved, now_held, now_tells, now_told}
use Rattle.bfs_stream_pages.proofs.pages.StreamPagesPages.append.Goals as goal

pub returns-in-Err-clause-goes_on : goal.returns-in-Err-clause-goes_on
returns-in-Err-clause-goes_on g c = let s = c.args.self.now in (refl, refl, goes_same s.backing s.bitmap.now s.length (known s.failed (g.E.Blocks.told s.start.value) (g.E.Blocks.told s.edits.now)) s.failed (g.E.Blocks.changed s.edits.now) (g.E.Blocks.counts s.edits.now), refl)

pub returns-in-Err-clause-cause : goal.returns-in-Err-clause-cause
returns-in-Err-clause-cause g c = let s = c.args.self.now in (goes_failed s.backing s.bitmap.now s.length (known s.failed (g.E.Blocks.told s.start.value) (g.E.Blocks.told s.edits.now)) s.failed (g.E.Blocks.counts s.edits.now) c.in-Err.fault c.in-Err.ensures.again, failed_block s.fixed s.failed c.in-Err.fault s.unfailed c.in-Err.ensures.again, noted_block s.failed c.in-Err.fault c.in-Err.fault c.in-Err.ensures.again)

pub returns-in_default-clause-goes_on : goal.returns-in_default-clause-goes_on
returns-in_default-clause-goes_on g c =
    let s = c.args.self.now in (
      refl,
      refl,
      goes_quiet s.backing s.bitmap.now s.length s.failed (g.E.Blocks.told s.start.value) (g.E.Blocks.told s.edits.now) (g.E.Blocks.told s.edits.now) (g.E.Blocks.changed s.edits.now) (g.E.Blocks.changed s.edits.now) (g.E.Blocks.counts s.edits.now) (g.E.Blocks.counts s.edits.now) c.in-Ok.ensures.none refl refl
          (record { faults = omega arith; stops = refl; stop = refl }),
      refl,
    )

pub returns-in_default-clause-cause : goal.returns-in_default-clause-cause
returns-in_default-clause-cause g c = let s = c.args.self.now in (memory_page s.backing s.bitmap.now s.length s.failed (g.E.Blocks.told s.start.value) (g.E.Blocks.told s.edits.now) (g.E.Blocks.counts s.edits.now) _ c.in-Ok.ensures.none refl, λ is. tt, λ is. tt)

pub returns-in-Err-buffer-clause-goes_on : goal.returns-in-Err-buffer-clause-goes_on
returns-in-Err-buffer-clause-goes_on g c =
    let s = c.args.self.now in (
      refl,
      refl,
      goes_quiet s.backing s.bitmap.now s.length s.failed (g.E.Blocks.told s.start.value) (g.E.Blocks.told s.edits.now) (g.E.Blocks.told s.edits.now) (g.E.Blocks.changed s.edits.now) (g.E.Blocks.changed s.edits.now) (g.E.Blocks.counts s.edits.now) (g.E.Blocks.counts s.edits.now) c.in-Ok.ensures.none refl refl
          (record { faults = omega arith; stops = refl; stop = refl }),
      refl,
    )

pub returns-in-Err-buffer-clause-cause : goal.returns-in-Err-buffer-clause-cause
returns-in-Err-buffer-clause-cause g c = let s = c.args.self.now in (memory_page s.backing s.bitmap.now s.length s.failed (g.E.Blocks.told s.start.value) (g.E.Blocks.told s.edits.now) (g.E.Blocks.counts s.edits.now) c.in-Err-buffer.fault c.in-Ok.ensures.none c.in-Err-buffer.ensures.fault, λ is. memory_block c.in-Err-buffer.fault c.in-Err-buffer.ensures.fault, λ is. memory_block c.in-Err-buffer.fault c.in-Err-buffer.ensures.fault)

pub returns-in-Err-add_page-clause-goes_on : goal.returns-in-Err-add_page-clause-goes_on
returns-in-Err-add_page-clause-goes_on g c =
    let s = c.args.self.now in (
      c.add_page.ensures.same,
      c.add_page.ensures.frame,
      record {
        rest = c.add_page.ensures.rest;
        moved = goes_lost s.backing s.bitmap.now c.add_page.new.bitmap s.length (known s.failed (g.E.Blocks.told s.start.value) (g.E.Blocks.told s.edits.now)) (g.E.Blocks.changed s.edits.now) (g.E.Blocks.changed c.add_page.new.edits) c.in-Err-add_page.fault;
        fault = now_failed s.backing s.bitmap.now s.length s.failed (g.E.Blocks.told s.start.value) (g.E.Blocks.told s.edits.now) (g.E.Blocks.counts s.edits.now) (g.E.Blocks.counts c.add_page.new.edits) c.in-Err-add_page.fault c.in-Ok.ensures.none c.in-Err-add_page.ensures.cause c.in-Err-add_page.ensures.faults;
        changed = c.add_page.ensures.changed;
        stays = c.add_page.ensures.stays;
        later = c.add_page.ensures.later;
      },
      refl,
    )

pub returns-in-Err-add_page-clause-cause : goal.returns-in-Err-add_page-clause-cause
returns-in-Err-add_page-clause-cause g c =
    let s = c.args.self.now in
    (has_cause s.backing s.bitmap.now s.length s.failed (g.E.Blocks.told s.start.value) (g.E.Blocks.told s.edits.now) (g.E.Blocks.counts s.edits.now) (g.E.Blocks.counts c.add_page.new.edits) c.in-Err-add_page.fault c.in-Ok.ensures.none c.in-Err-add_page.ensures.cause c.in-Err-add_page.ensures.faults, λ is. open_block s.fixed c.in-Err-add_page.fault c.in-Some.ensures.2 is, noted_block (Some c.in-Err-add_page.fault) c.in-Err-add_page.fault c.in-Err-add_page.fault refl)

pub invariant_of-self-2-clause-tells : goal.invariant_of-self-2-clause-tells
invariant_of-self-2-clause-tells g c =
    let s = c.args.self.now in
    now_tells s.backing s.bitmap.now c.add_page.new.bitmap s.length (s.length + 1024) s.failed (g.E.Blocks.told s.start.value) (g.E.Blocks.told s.edits.now) (g.E.Blocks.told c.add_page.new.edits) (g.E.Blocks.changed s.edits.now) (g.E.Blocks.changed c.add_page.new.edits) s.tells s.held
    (λ m is h. (c.in-Ok-add_page.ensures.added m is h).comes)

pub invariant_of-self-2-clause-held : goal.invariant_of-self-2-clause-held
invariant_of-self-2-clause-held g c m is =
    let s = c.args.self.now in
    subst (λ (o : Origin). ∥ Held o c.add_page.new.bitmap c.in-Some.end m ∥₁) (sym c.add_page.ensures.same)
    (subst (λ (n : ℕ). ∥ Held s.backing c.add_page.new.bitmap n m ∥₁) (sym c.in-Some.ensures.0)
    (now_held s.backing s.bitmap.now c.add_page.new.bitmap s.length (s.length + 1024) s.failed (g.E.Blocks.told s.start.value) (g.E.Blocks.told s.edits.now) (g.E.Blocks.told c.add_page.new.edits) (g.E.Blocks.changed s.edits.now) (g.E.Blocks.changed c.add_page.new.edits) s.tells s.held
    (λ m is h. (c.in-Ok-add_page.ensures.added m is h).comes) m is))

pub returns-clause-told : goal.returns-clause-told
returns-clause-told g c =
    let s = c.args.self.now in
    ap (λ (o : Origin). option_map (stream_of o) (known s.failed (g.E.Blocks.told s.start.value) (g.E.Blocks.told c.add_page.new.edits))) c.add_page.ensures.same
    ∙ now_told s.backing s.bitmap.now c.add_page.new.bitmap s.length (s.length + 1024) s.failed (g.E.Blocks.told s.start.value) (g.E.Blocks.told s.edits.now) (g.E.Blocks.told c.add_page.new.edits) (g.E.Blocks.changed s.edits.now) (g.E.Blocks.changed c.add_page.new.edits) s.tells s.held
    (λ m is h. (c.in-Ok-add_page.ensures.added m is h).comes) (λ (bytes : List ℕ). bytes ++ c.args.from.now) (λ m is h. (c.in-Ok-add_page.ensures.added m is h).bytes)

pub returns-clause-goes_on : goal.returns-clause-goes_on
returns-clause-goes_on g c =
    let s = c.args.self.now in (
      c.add_page.ensures.same,
      c.add_page.ensures.frame,
      record {
        rest = c.add_page.ensures.rest;
        moved = subst (λ (n : ℕ). HasMoved s.backing s.bitmap.now c.add_page.new.bitmap s.length n (known s.failed (g.E.Blocks.told s.start.value) (g.E.Blocks.told s.edits.now)) (known s.failed (g.E.Blocks.told s.start.value) (g.E.Blocks.told c.add_page.new.edits)) s.failed (g.E.Blocks.changed s.edits.now) (g.E.Blocks.changed c.add_page.new.edits)) (sym c.in-Some.ensures.0)
            (now_moved s.backing s.bitmap.now c.add_page.new.bitmap s.length (s.length + 1024) s.failed (g.E.Blocks.told s.start.value) (g.E.Blocks.told s.edits.now) (g.E.Blocks.told c.add_page.new.edits) (g.E.Blocks.changed s.edits.now) (g.E.Blocks.changed c.add_page.new.edits) s.tells s.held
            (λ m is h. (c.in-Ok-add_page.ensures.added m is h).comes));
        fault = none_failed s.backing s.bitmap.now s.length (known s.failed (g.E.Blocks.told s.start.value) (g.E.Blocks.told s.edits.now)) s.failed (g.E.Blocks.counts s.edits.now) (g.E.Blocks.counts c.add_page.new.edits) c.in-Ok.ensures.none;
        changed = c.add_page.ensures.changed;
        stays = c.add_page.ensures.stays;
        later = c.add_page.ensures.later;
      },
      refl,
    )
