use Rattle.std.proofs.Common.{◌∙◌, ◌++◌, ◌∷◌, inl, inr, Option, ℕ, sym, subst}
use Rattle.bfs_stream.specs.Told.{contents}
use Rattle.bfs_sound.specs.Volumes.{Volume}
use Rattle.bfs_sound.specs.Whole.{volume_of}
use Rattle.bfs_nodes_walk.specs.Walks.{IsNodeWay, blocks_of_visits}
use Rattle.bfs_attrs_walk.specs.Passes.{attribute_blocks, blocks_of_leads, IsWayFromAny, IsOwnerFound}
use Rattle.bfs_attrs_walk.proofs.Searched.{Either, widen, found_behind}
use Rattle.bfs_attrs_walk.proofs.owners.find_first.Goals as goal

pub find_before-requires-clause-all : goal.find_before-requires-clause-all
find_before-requires-clause-all g c m told = c.requires.all m (sym c.in-Ok-None.ensures.told ∙ told)

pub find_before-requires-clause-have : goal.find_before-requires-clause-have
find_before-requires-clause-have g c m told = c.requires.have m (sym c.in-Ok-None.ensures.told ∙ told)

pub find_before-requires-clause-those : goal.find_before-requires-clause-those
find_before-requires-clause-those g c m told = c.requires.those m (sym c.in-Ok-None.ensures.told ∙ told)

pub returns-in-Ok-Some-clause-found : goal.returns-in-Ok-Some-clause-found
returns-in-Ok-Some-clause-found g c m top visits told ways followed reached =
    let v : Volume = volume_of c.args.sup.now (contents m) in
    widen v c.args.block IsNodeWay (Either c.args.root c.args.before.now) (λ way f. inl f) c.in-Ok-Some.owner
    (subst (λ (o : Option ℕ). IsOwnerFound IsNodeWay v (blocks_of_visits v (top ∷ visits)) c.args.block o) c.in-Ok-Some.field-0-is (c.in-Ok-Some.ensures.found m top visits told ways followed))

pub returns-in-Ok-clause-found : goal.returns-in-Ok-clause-found
returns-in-Ok-clause-found g c m top visits told ways followed reached =
    let v : Volume = volume_of c.args.sup.now (contents m) in
    let none = subst (λ (o : Option ℕ). IsOwnerFound IsNodeWay v (blocks_of_visits v (top ∷ visits)) c.args.block o) c.in-Ok-None.field-0-is (c.in-Ok-None.ensures.found m top visits told ways followed) in
    found_behind v c.args.block (IsWayFromAny c.args.root c.args.before.now) (Either c.args.root c.args.before.now) (λ way f. inr f) (blocks_of_visits v (top ∷ visits))
    (attribute_blocks v c.args.root ++ blocks_of_leads v c.args.before.now) c.in-Ok.found none (c.in-Ok.ensures.found m (c.in-Ok-None.ensures.told ∙ told) reached)
