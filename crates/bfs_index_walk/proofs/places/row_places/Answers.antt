use Rattle.std.proofs.Common.{◌≡◌, ◌∙◌, ◌++◌, ◌∷◌, [], List, ap}
use Rattle.bfs_owner.specs.declared.place.Place.{Place}
use Rattle.bfs_index_walk.specs.Indices.{place_at}
use Rattle.bfs_index_walk.proofs.Placing.{first_inside}
use Rattle.bfs_index_walk.proofs.places.row_places.Goals as goal

pub returns-in-Ok-push_places-clause-inside : goal.returns-in-Ok-push_places-clause-inside
returns-in-Ok-push_places-clause-inside c blocks below rows =
    let first : c.push_place.new.places.items ≡ [] ++ (place_at c.args.directory ∷ []) = c.in-Ok.ensures.pushed ∙ ap (λ (l : List Place). l ++ (place_at c.args.directory ∷ [])) c.new-places.ensures.items in
    c.in-Ok-push_places.ensures.inside blocks rows (first_inside blocks c.args.directory c.push_place.new.places.items first below)
