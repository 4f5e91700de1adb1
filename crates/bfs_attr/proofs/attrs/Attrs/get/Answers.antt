use Rattle.std.proofs.Common.{◌≡◌, ◌∙◌, sym, subst}
use Rattle.std.specs.Prelude.{IfErr, MatchResult}
use Rattle.std.specs.FinMap.{get}
use Rattle.std.specs.Option.{option_map}
use Rattle.bfs_maps.specs.Refused.{IsUndone}
use Rattle.bfs_attr.specs.Bearers.{Bearer, bearer_of, volume_at, HasAttributes, CanRead, attributes_at, entries_at, shown, value_at}
use Rattle.bfs_attr.specs.Refused.{IsAttributeFault}
use Rattle.bfs_attr.proofs.Tops.{ok_map, value_is}
use Rattle.bfs_attr.proofs.attrs.Attrs.get.Goals as goal

pub attribute_of-requires-clause-readable : goal.attribute_of-requires-clause-readable
attribute_of-requires-clause-readable g c m told = subst (λ (x : Bearer). CanRead x m) (sym c.self.view_is) (c.requires.readable m told)

pub returns-clause-found : goal.returns-clause-found
returns-clause-found g c m told has =
    let p : Bearer = bearer_of c.self.inside.inode c.self.inside.sup in
    let own : HasAttributes (volume_at p.geometry m) p.id = subst (λ (x : Bearer). HasAttributes (volume_at x.geometry m) x.id) (sym c.self.view_is) has in
    subst (λ (x : Bearer). MatchResult c.attribute_of.result (λ o. option_map shown o ≡ get (attributes_at (volume_at x.geometry m) x.id) c.args.name.now) IsUndone) c.self.view_is
    (ok_map c.attribute_of.result (λ o. option_map shown o ≡ value_at (entries_at (volume_at p.geometry m) p.id) c.args.name.now) (λ o. option_map shown o ≡ get (attributes_at (volume_at p.geometry m) p.id) c.args.name.now) IsUndone
    (λ o e. e ∙ value_is (entries_at (volume_at p.geometry m) p.id) c.args.name.now)
    (c.attribute_of.ensures.found m told own))

pub returns-clause-refused : goal.returns-clause-refused
returns-clause-refused g c m told =
    subst (λ (x : Bearer). IfErr c.attribute_of.result (IsAttributeFault (volume_at x.geometry m) x.id)) c.self.view_is (c.attribute_of.ensures.refused m told)
