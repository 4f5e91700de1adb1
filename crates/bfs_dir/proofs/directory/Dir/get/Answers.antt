use Rattle.std.proofs.Common.{sym, subst}
use Rattle.std.specs.Prelude.{IfErr, MatchResult}
use Rattle.bfs_base.specs.declared.kind.KeyKind.TheVariants.{Text}
use Rattle.bfs_stream.specs.Sizes.{Origin}
use Rattle.bfs_stream_pages.specs.Held.{stream_of}
use Rattle.bfs_maps.specs.Mapped.{rows_of, HasReadable}
use Rattle.bfs_maps.specs.NumberTrees.{HoldsNumber, IsNumberAt}
use Rattle.bfs_maps.specs.Refused.{IsNumberPage, IsReadFault, IsUndone}
use Rattle.bfs_dir.proofs.directory.Dir.get.Goals as goal

pub number_at-requires-clause-stream : goal.number_at-requires-clause-stream
number_at-requires-clause-stream g c m told = subst (λ (x : Origin). HasReadable x m) (sym c.self.view_is) (c.requires.stream m told)

pub returns-clause-found : goal.returns-clause-found
returns-clause-found g c m told tree =
    subst (λ (x : Origin). MatchResult c.number_at.result (IsNumberAt Text (rows_of Text x m) c.args.name.now) IsUndone) c.self.view_is
    (c.number_at.ensures.found m told (subst (λ (x : Origin). HoldsNumber Text c.args.name.now (stream_of x m)) (sym c.self.view_is) tree))

pub returns-clause-refused : goal.returns-clause-refused
returns-clause-refused g c m told =
    subst (λ (x : Origin). IfErr c.number_at.result (IsReadFault (IsNumberPage Text (stream_of x m)) x m)) c.self.view_is (c.number_at.ensures.refused m told)
