use Rattle.std.proofs.Common.{◌∙◌, sym, ap, subst}
use Rattle.std.specs.Prelude.{IfErr, MatchResult}
use Rattle.bfs_stream.specs.Sizes.{Origin}
use Rattle.bfs_stream_pages.specs.Held.{stream_of}
use Rattle.bfs_maps.specs.Mapped.{rows_of, origin_of}
use Rattle.std.proofs.Common.{◌≡◌}
use Rattle.std.specs.Option.{option_copied}
use Rattle.bfs_range.specs.Answers.{answer_of}
use Rattle.bfs_range.specs.Ranges.{rows_between}
use Rattle.bfs_values.specs.Kinds.{IsWanted}
use Rattle.bfs_values.specs.Reached.{IsWholeTree}
use Rattle.bfs_maps.specs.Refused.{IsReadFault, IsUndone}
use Rattle.bfs_stream_pages.proofs.Keeping.{given}
use Rattle.bfs_maps.proofs.reading.rows_with.Goals as goal

pub returns-clause-rows : goal.returns-clause-rows
returns-clause-rows g c m told tree =
    let here = ap g.B.Blocks.told c.over-pages.ensures.under_now ∙ told in
    let same = subst (λ (x : Origin). IsWholeTree c.args.tree.kind (stream_of x m)) (sym c.over-pages.ensures.backing) tree in
    subst (λ (x : Origin). MatchResult c.rows_over.result (λ found. found ≡ answer_of (stream_of x m) (rows_between c.args.tree.kind (option_copied c.args.low) (option_copied c.args.high) (rows_of c.args.tree.kind x m))) IsUndone) c.over-pages.ensures.backing (c.rows_over.ensures.rows m here same)

pub returns-clause-refused : goal.returns-clause-refused
returns-clause-refused g c m told =
    let here = ap g.B.Blocks.told c.over-pages.ensures.under_now ∙ told in
    subst (λ (x : Origin). IfErr c.rows_over.result (IsReadFault (IsWanted c.args.tree.kind (stream_of x m)) x m)) c.over-pages.ensures.backing (c.rows_over.ensures.refused m here)

pub over-pages-requires-clause-bytes : goal.over-pages-requires-clause-bytes
over-pages-requires-clause-bytes g c b is = given (origin_of c.args.tree) (g.B.Blocks.told c.args.under.now) c.args.bytes b c.requires.bytes is
