use Rattle.std.proofs.Common.{◌∙◌, ap}
use Rattle.bfs_pages.specs.Maps.{without}
use Rattle.bfs_stream_pages.specs.Held.{known, stream_of}
use Rattle.bfs_maps.specs.Mapped.{rows_of}
use Rattle.bfs_maps.specs.RowTrees.{IsRowTree}
use Rattle.bfs_maps.proofs.Went.{never_failed, undamaged_from, fixed_blamed, told_start, goes_on_from, went, stream_now, match_ok, if_err, on_err, take_fault, take_cause, cause_from, below_from, take_change}
use Rattle.bfs_maps.specs.Refused.{IsNumberPage}
use Rattle.bfs_maps.proofs.writing.take_over.Goals as goal

pub returns-clause-taken : goal.returns-clause-taken
returns-clause-taken g c m told held tree =
    let s = c.args.pages.now in
    let q = c.take_in.new.pages in
    let same = ap g.E.Blocks.told c.requires.begun in
    let is = told_start s.backing s.failed (g.E.Blocks.told s.start.value) (g.E.Blocks.told s.edits.now) m c.requires.unfailed same told in
    let goes = c.take_in.ensures.kept.goes_on in
    let on = goes_on_from s.backing s.bitmap.now q.bitmap.now s.length q.length m s.failed (g.E.Blocks.told s.start.value) (g.E.Blocks.told s.edits.now) (known q.failed (g.E.Blocks.told q.start.value) (g.E.Blocks.told q.edits.now)) q.failed (g.E.Blocks.changed s.edits.now) (g.E.Blocks.changed q.edits.now) (g.E.Blocks.counts s.edits.now) (g.E.Blocks.counts q.edits.now) c.requires.unfailed same told goes.2 in
    match_ok _ _ _ c.take_in.result (c.take_in.ensures.taken (stream_of s.backing m) is tree) (λ done x.
    stream_now s.backing s.bitmap.now q.bitmap.now q.length m x.0 (IsRowTree c.args.kind (without c.args.kind (rows_of c.args.kind s.backing m) c.args.key.now)) (g.E.Blocks.told q.edits.now) (g.E.Blocks.changed s.edits.now) (g.E.Blocks.changed q.edits.now)
    (went s.backing q.backing s.bitmap.now q.bitmap.now s.length q.length m x.0 q.failed (g.E.Blocks.told q.start.value) (g.E.Blocks.told q.edits.now) (g.E.Blocks.changed s.edits.now) (g.E.Blocks.changed q.edits.now) (g.E.Blocks.counts s.edits.now) (g.E.Blocks.counts q.edits.now) goes.0 x.1 held on) x.2)

pub returns-clause-number : goal.returns-clause-number
returns-clause-number g c m told held tree =
    let s = c.args.pages.now in
    let q = c.take_in.new.pages in
    let same = ap g.E.Blocks.told c.requires.begun in
    let is = told_start s.backing s.failed (g.E.Blocks.told s.start.value) (g.E.Blocks.told s.edits.now) m c.requires.unfailed same told in
    c.take_in.ensures.number (stream_of s.backing m) is tree

pub returns-clause-refused : goal.returns-clause-refused
returns-clause-refused g c m told held tree =
    let s = c.args.pages.now in
    let q = c.take_in.new.pages in
    let same = ap g.E.Blocks.told c.requires.begun in
    let is = told_start s.backing s.failed (g.E.Blocks.told s.start.value) (g.E.Blocks.told s.edits.now) m c.requires.unfailed same told in
    if_err _ _ _ _ c.take_in.result (c.take_in.ensures.taken (stream_of s.backing m) is tree) c.take_in.ensures.refused (λ fault why also.
    take_fault c.args.kind (rows_of c.args.kind s.backing m) c.args.key.now _ _ _ fault why also (λ f why. undamaged_from s.backing s.bitmap.now m f (cause_from s.backing s.bitmap.now s.length m s.failed (g.E.Blocks.told s.start.value) (g.E.Blocks.told s.edits.now) (g.E.Blocks.counts s.edits.now) (g.E.Blocks.counts q.edits.now) f c.requires.unfailed same told held why.0) (why.1 c.requires.fixed)))

pub returns-clause-cause : goal.returns-clause-cause
returns-clause-cause g c =
    let s = c.args.pages.now in
    let q = c.take_in.new.pages in
    on_err _ _ c.take_in.result c.take_in.ensures.refused (λ fault also.
    take_cause c.args.kind _ _ _ (g.E.Blocks.counts s.edits.now) (g.E.Blocks.counts q.edits.now) fault also (λ f why. (why.1 c.requires.fixed, below_from s.backing s.bitmap.now s.length (known s.failed (g.E.Blocks.told s.start.value) (g.E.Blocks.told s.edits.now)) s.failed (g.E.Blocks.counts s.edits.now) (g.E.Blocks.counts q.edits.now) f c.requires.unfailed why.0)))

pub returns-clause-blamed : goal.returns-clause-blamed
returns-clause-blamed g c m told held =
    let s = c.args.pages.now in
    let q = c.take_in.new.pages in
    let same = ap g.E.Blocks.told c.requires.begun in
    let goes = c.take_in.ensures.kept.goes_on in
    let on = goes_on_from s.backing s.bitmap.now q.bitmap.now s.length q.length m s.failed (g.E.Blocks.told s.start.value) (g.E.Blocks.told s.edits.now) (known q.failed (g.E.Blocks.told q.start.value) (g.E.Blocks.told q.edits.now)) q.failed (g.E.Blocks.changed s.edits.now) (g.E.Blocks.changed q.edits.now) (g.E.Blocks.counts s.edits.now) (g.E.Blocks.counts q.edits.now) c.requires.unfailed same told goes.2 in
    on_err _ _ c.take_in.result c.take_in.ensures.refused (λ fault also.
    take_change c.args.kind s.backing m _ _ (g.E.Blocks.told q.edits.now) _ fault also (λ f why. undamaged_from s.backing s.bitmap.now m f (cause_from s.backing s.bitmap.now s.length m s.failed (g.E.Blocks.told s.start.value) (g.E.Blocks.told s.edits.now) (g.E.Blocks.counts s.edits.now) (g.E.Blocks.counts q.edits.now) f c.requires.unfailed same told held why.0) (why.1 c.requires.fixed))
    (λ page sort bad. fixed_blamed (IsNumberPage c.args.kind) s.backing q.backing s.bitmap.now q.bitmap.now s.length q.length m q.failed (g.E.Blocks.told q.start.value) (g.E.Blocks.told q.edits.now) (g.E.Blocks.changed s.edits.now) (g.E.Blocks.changed q.edits.now) (g.E.Blocks.counts s.edits.now) (g.E.Blocks.counts q.edits.now) page sort (never_failed q.fixed q.failed q.unfailed (goes.3 ∙ c.requires.fixed)) goes.0 on bad))
