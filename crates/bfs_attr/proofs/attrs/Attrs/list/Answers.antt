use Rattle.std.proofs.Common.{◌≡◌, sym, subst}
use Rattle.std.specs.Prelude.{IfErr, MatchResult}
use Rattle.bfs_tree.specs.Answers.{rows_of_attributes}
use Rattle.bfs_maps.specs.Refused.{IsUndone}
use Rattle.bfs_attr.specs.Bearers.{Bearer, volume_at, HasAttributes, CanRead, entries_at}
use Rattle.bfs_attr.specs.Refused.{IsAttributeFault}
use Rattle.bfs_attr.proofs.attrs.Attrs.list.Goals as goal

pub rows_of-requires-clause-readable : goal.rows_of-requires-clause-readable
rows_of-requires-clause-readable g c m told = subst (λ (x : Bearer). CanRead x m) (sym c.self.view_is) (c.requires.readable m told)

pub returns-clause-listed : goal.returns-clause-listed
returns-clause-listed g c m told has =
    subst (λ (x : Bearer). MatchResult c.rows_of.result (λ rows. rows ≡ rows_of_attributes (entries_at (volume_at x.geometry m) x.id)) IsUndone) c.self.view_is
    (c.rows_of.ensures.found m told (subst (λ (x : Bearer). HasAttributes (volume_at x.geometry m) x.id) (sym c.self.view_is) has))

pub returns-clause-refused : goal.returns-clause-refused
returns-clause-refused g c m told =
    subst (λ (x : Bearer). IfErr c.rows_of.result (IsAttributeFault (volume_at x.geometry m) x.id)) c.self.view_is (c.rows_of.ensures.refused m told)
