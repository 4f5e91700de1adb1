use Rattle.std.proofs.Common.{◌∙◌, sym, ap, subst}
use Rattle.std.specs.List.{flat_map}
use Rattle.bfs_stream.specs.Sizes.{sizes_of}
use Rattle.bfs_stream_pages.specs.Held.{stream_of}
use Rattle.bfs_values.specs.Reached.{IsWholeTree}
use Rattle.bfs_maps.specs.Mapped.{rows_of, HasReadable}
use Rattle.bfs_index.specs.Indices.{Place, row_pairs, found_between, pairs_at}
use Rattle.bfs_index.proofs.Between.{between_rows}
use Rattle.bfs_index.proofs.index.Index.range.Goals as goal

pub rows_from-requires-clause-stream : goal.rows_from-requires-clause-stream
rows_from-requires-clause-stream g c m told = subst (λ (x : Place). HasReadable x.origin m) (sym c.self.view_is) (c.requires.stream m told)

pub returns-in-Ok-pairs_of_rows-clause-found : goal.returns-in-Ok-pairs_of_rows-clause-found
returns-in-Ok-pairs_of_rows-clause-found g c m told tree =
    let p : Place = record { origin = record { id = c.self.inside.inode; sizes = sizes_of c.self.inside.sup }; kind = c.self.inside.kind } in
    let t = subst (λ (x : Place). IsWholeTree x.kind (stream_of x.origin m)) (sym c.self.view_is) tree in
    c.in-Ok-pairs_of_rows.ensures ∙ ap (flat_map row_pairs) (c.in-Ok.ensures.rows m told t) ∙ between_rows p.kind (stream_of p.origin m) c.args.low.now c.args.high.now (rows_of p.kind p.origin m)
    ∙ ap (λ (x : Place). found_between x.kind c.args.low.now c.args.high.now (pairs_at x m)) c.self.view_is
