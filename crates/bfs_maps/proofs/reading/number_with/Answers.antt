use Rattle.std.proofs.Common.{◌∙◌, sym, ap, subst}
use Rattle.std.specs.Prelude.{IfErr, MatchResult}
use Rattle.bfs_stream.specs.Sizes.{Origin}
use Rattle.bfs_stream_pages.specs.Held.{stream_of}
use Rattle.bfs_maps.specs.Mapped.{rows_of, origin_of}
use Rattle.bfs_maps.specs.NumberTrees.{HoldsNumber, IsNumberAt}
use Rattle.bfs_maps.specs.Refused.{IsNumberPage, IsReadFault, IsUndone}
use Rattle.bfs_stream_pages.proofs.Keeping.{given}
use Rattle.bfs_maps.proofs.reading.number_with.Goals as goal

pub returns-clause-found : goal.returns-clause-found
returns-clause-found g c m told tree =
    let here = ap g.B.Blocks.told c.over-pages.ensures.under_now ∙ told in
    let same = subst (λ (x : Origin). HoldsNumber c.args.tree.kind c.args.key.now (stream_of x m)) (sym c.over-pages.ensures.backing) tree in
    subst (λ (x : Origin). MatchResult c.number_over.result (IsNumberAt c.args.tree.kind (rows_of c.args.tree.kind x m) c.args.key.now) IsUndone) c.over-pages.ensures.backing (c.number_over.ensures.found m here same)

pub returns-clause-refused : goal.returns-clause-refused
returns-clause-refused g c m told =
    let here = ap g.B.Blocks.told c.over-pages.ensures.under_now ∙ told in
    subst (λ (x : Origin). IfErr c.number_over.result (IsReadFault (IsNumberPage c.args.tree.kind (stream_of x m)) x m)) c.over-pages.ensures.backing (c.number_over.ensures.refused m here)

pub over-pages-requires-clause-bytes : goal.over-pages-requires-clause-bytes
over-pages-requires-clause-bytes g c b is = given (origin_of c.args.tree) (g.B.Blocks.told c.args.under.now) c.args.bytes b c.requires.bytes is
