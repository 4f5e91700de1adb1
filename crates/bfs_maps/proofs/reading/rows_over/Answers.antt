use Rattle.std.proofs.Common.{◌∙◌, ap}
use Rattle.std.specs.Option.{option_map}
use Rattle.bfs_stream_pages.specs.Held.{stream_of}
use Rattle.bfs_pages.specs.Shapes.{tree_rows}
use Rattle.bfs_values.specs.Kinds.{IsLacking}
use Rattle.bfs_values.proofs.Rows.{rows_those}
use Rattle.bfs_maps.specs.Mapped.{rows_of}
use Rattle.bfs_maps.proofs.Between.{ranged_whole}
use Rattle.bfs_maps.proofs.Went.{both, on_err, rows_undone, rows_unread, rows_cause}
use Rattle.bfs_maps.proofs.reading.rows_over.Goals as goal

pub returns-clause-rows : goal.returns-clause-rows
returns-clause-rows g c m told tree =
    let s = c.args.pages.now in
    let q = c.range.new.pages in
    let is = ap (option_map (stream_of s.backing)) told in
    both _ _ _ _ c.range.result (ranged_whole c.args.kind (stream_of s.backing m) _ _ (tree_rows tree.shape) (rows_of c.args.kind s.backing m) c.range.result IsLacking (rows_those c.args.kind (stream_of s.backing m) tree.reached tree.shape tree.free tree.tree) tree.mean (c.range.ensures.ranged (stream_of s.backing m) tree.reached tree.shape tree.free is tree.tree)) c.range.ensures.refused
    (λ fault why also. rows_undone c.args.kind s.backing (g.B.Blocks.told s.under.now) _ (g.B.Blocks.counts s.under.now) (g.B.Blocks.counts q.under.now) m fault told why also)

pub returns-clause-refused : goal.returns-clause-refused
returns-clause-refused g c m told =
    let s = c.args.pages.now in
    let q = c.range.new.pages in
    let is = c.range.ensures.told ∙ ap (option_map (stream_of s.backing)) told in
    on_err _ _ c.range.result c.range.ensures.refused
    (λ fault also. rows_unread c.args.kind s.backing (g.B.Blocks.told s.under.now) _ (g.B.Blocks.counts s.under.now) (g.B.Blocks.counts q.under.now) m fault told is also)

pub returns-clause-cause : goal.returns-clause-cause
returns-clause-cause g c =
    let s = c.args.pages.now in
    let q = c.range.new.pages in
    on_err _ _ c.range.result c.range.ensures.refused
    (λ fault also. rows_cause c.args.kind s.backing (g.B.Blocks.told s.under.now) _ (g.B.Blocks.counts s.under.now) (g.B.Blocks.counts q.under.now) fault also)
