use Rattle.std.proofs.Common.{◌∙◌, ap, pos}
use Rattle.bfs_pages.specs.Maps.{put}
use Rattle.bfs_stream_pages.specs.Held.{known, stream_of}
use Rattle.bfs_maps.specs.Mapped.{rows_of}
use Rattle.bfs_maps.specs.RowTrees.{IsRowTree}
use Rattle.bfs_maps.proofs.Went.{told_start, goes_on_from, went, stream_now, match_ok, if_err, on_err, put_fault, put_cause, cause_from, below_from, put_change, page_blamed, undamaged_from}
use Rattle.bfs_pages.specs.Answers.{IsOfKind}
use Rattle.bfs_maps.proofs.writing.put_over.Goals as goal

pub returns-clause-put : goal.returns-clause-put
returns-clause-put g c m told held tree =
    let s = c.args.pages.now in
    let q = c.put_in.new.pages in
    let same = ap g.E.Blocks.told c.requires.begun in
    let is = told_start s.backing s.failed (g.E.Blocks.told s.start.value) (g.E.Blocks.told s.edits.now) m c.requires.unfailed same told in
    let goes = c.put_in.ensures.kept.goes_on in
    let on = goes_on_from s.backing s.bitmap.now q.bitmap.now s.length q.length m s.failed (g.E.Blocks.told s.start.value) (g.E.Blocks.told s.edits.now) (known q.failed (g.E.Blocks.told q.start.value) (g.E.Blocks.told q.edits.now)) q.failed (g.E.Blocks.changed s.edits.now) (g.E.Blocks.changed q.edits.now) (g.E.Blocks.counts s.edits.now) (g.E.Blocks.counts q.edits.now) c.requires.unfailed same told goes.2 in
    match_ok _ _ _ c.put_in.result (c.put_in.ensures.put (stream_of s.backing m) is tree) (λ done x.
    stream_now s.backing s.bitmap.now q.bitmap.now q.length m x.0 (IsRowTree c.args.kind (put c.args.kind (rows_of c.args.kind s.backing m) c.args.key.now (pos c.args.number))) (g.E.Blocks.told q.edits.now) (g.E.Blocks.changed s.edits.now) (g.E.Blocks.changed q.edits.now)
    (went s.backing q.backing s.bitmap.now q.bitmap.now s.length q.length m x.0 q.failed (g.E.Blocks.told q.start.value) (g.E.Blocks.told q.edits.now) (g.E.Blocks.changed s.edits.now) (g.E.Blocks.changed q.edits.now) (g.E.Blocks.counts s.edits.now) (g.E.Blocks.counts q.edits.now) goes.0 x.1 held on) x.2)

pub returns-clause-absent : goal.returns-clause-absent
returns-clause-absent g c m told held tree =
    let s = c.args.pages.now in
    let q = c.put_in.new.pages in
    let same = ap g.E.Blocks.told c.requires.begun in
    let is = told_start s.backing s.failed (g.E.Blocks.told s.start.value) (g.E.Blocks.told s.edits.now) m c.requires.unfailed same told in
    c.put_in.ensures.absent (stream_of s.backing m) is tree

pub returns-clause-refused : goal.returns-clause-refused
returns-clause-refused g c m told held tree =
    let s = c.args.pages.now in
    let q = c.put_in.new.pages in
    let same = ap g.E.Blocks.told c.requires.begun in
    let is = told_start s.backing s.failed (g.E.Blocks.told s.start.value) (g.E.Blocks.told s.edits.now) m c.requires.unfailed same told in
    if_err _ _ _ _ c.put_in.result (c.put_in.ensures.put (stream_of s.backing m) is tree) c.put_in.ensures.refused (λ fault why also.
    put_fault c.args.kind s.backing s.bitmap.now m (rows_of c.args.kind s.backing m) c.args.key.now _ _ _ fault why also (λ f why. cause_from s.backing s.bitmap.now s.length m s.failed (g.E.Blocks.told s.start.value) (g.E.Blocks.told s.edits.now) (g.E.Blocks.counts s.edits.now) (g.E.Blocks.counts q.edits.now) f c.requires.unfailed same told held why.0)
    (λ value there f why. undamaged_from s.backing s.bitmap.now m f (cause_from s.backing s.bitmap.now s.length m s.failed (g.E.Blocks.told s.start.value) (g.E.Blocks.told s.edits.now) (g.E.Blocks.counts s.edits.now) (g.E.Blocks.counts q.edits.now) f c.requires.unfailed same told held why.0) (why.2 ((c.put_in.ensures.there (stream_of s.backing m) value is tree there).5.failed ∙ c.requires.unfailed))))

pub returns-clause-cause : goal.returns-clause-cause
returns-clause-cause g c =
    let s = c.args.pages.now in
    let q = c.put_in.new.pages in
    on_err _ _ c.put_in.result c.put_in.ensures.refused (λ fault also.
    put_cause c.args.kind _ _ _ (g.E.Blocks.counts s.edits.now) (g.E.Blocks.counts q.edits.now) fault also (λ f why. below_from s.backing s.bitmap.now s.length (known s.failed (g.E.Blocks.told s.start.value) (g.E.Blocks.told s.edits.now)) s.failed (g.E.Blocks.counts s.edits.now) (g.E.Blocks.counts q.edits.now) f c.requires.unfailed why.0))

pub returns-clause-blamed : goal.returns-clause-blamed
returns-clause-blamed g c m told held =
    let s = c.args.pages.now in
    let q = c.put_in.new.pages in
    let same = ap g.E.Blocks.told c.requires.begun in
    let goes = c.put_in.ensures.kept.goes_on in
    let on = goes_on_from s.backing s.bitmap.now q.bitmap.now s.length q.length m s.failed (g.E.Blocks.told s.start.value) (g.E.Blocks.told s.edits.now) (known q.failed (g.E.Blocks.told q.start.value) (g.E.Blocks.told q.edits.now)) q.failed (g.E.Blocks.changed s.edits.now) (g.E.Blocks.changed q.edits.now) (g.E.Blocks.counts s.edits.now) (g.E.Blocks.counts q.edits.now) c.requires.unfailed same told goes.2 in
    on_err _ _ c.put_in.result c.put_in.ensures.refused (λ fault also.
    put_change c.args.kind s.backing s.bitmap.now m _ _ (g.E.Blocks.told q.edits.now) _ fault also (λ f why. cause_from s.backing s.bitmap.now s.length m s.failed (g.E.Blocks.told s.start.value) (g.E.Blocks.told s.edits.now) (g.E.Blocks.counts s.edits.now) (g.E.Blocks.counts q.edits.now) f c.requires.unfailed same told held why.0)
    (λ page sort bad. page_blamed (IsOfKind c.args.kind) s.backing q.backing s.bitmap.now q.bitmap.now s.length q.length m q.failed (g.E.Blocks.told q.start.value) (g.E.Blocks.told q.edits.now) (g.E.Blocks.changed s.edits.now) (g.E.Blocks.changed q.edits.now) (g.E.Blocks.counts s.edits.now) (g.E.Blocks.counts q.edits.now) page sort goes.0 held on bad))
