use Rattle.std.proofs.Common.{◌∙◌, ap}
use Rattle.std.specs.Option.{option_map}
use Rattle.bfs_stream_pages.specs.Held.{stream_of}
use Rattle.bfs_maps.proofs.Went.{both, on_err, number_undone, number_unread, number_cause}
use Rattle.bfs_maps.proofs.reading.number_over.Goals as goal

pub returns-clause-found : goal.returns-clause-found
returns-clause-found g c m told tree =
    let s = c.args.pages.now in
    let q = c.number_in.new.pages in
    let is = ap (option_map (stream_of s.backing)) told in
    both _ _ _ _ c.number_in.result (c.number_in.ensures.found (stream_of s.backing m) is tree) c.number_in.ensures.refused
    (λ fault why also. number_undone c.args.kind s.backing (g.B.Blocks.told s.under.now) _ (g.B.Blocks.counts s.under.now) (g.B.Blocks.counts q.under.now) m fault told why also)

pub returns-clause-refused : goal.returns-clause-refused
returns-clause-refused g c m told =
    let s = c.args.pages.now in
    let q = c.number_in.new.pages in
    let is = c.number_in.ensures.told ∙ ap (option_map (stream_of s.backing)) told in
    on_err _ _ c.number_in.result c.number_in.ensures.refused
    (λ fault also. number_unread c.args.kind s.backing (g.B.Blocks.told s.under.now) _ (g.B.Blocks.counts s.under.now) (g.B.Blocks.counts q.under.now) m fault told is also)

pub returns-clause-cause : goal.returns-clause-cause
returns-clause-cause g c =
    let s = c.args.pages.now in
    let q = c.number_in.new.pages in
    on_err _ _ c.number_in.result c.number_in.ensures.refused
    (λ fault also. number_cause c.args.kind s.backing (g.B.Blocks.told s.under.now) _ (g.B.Blocks.counts s.under.now) (g.B.Blocks.counts q.under.now) fault also)
