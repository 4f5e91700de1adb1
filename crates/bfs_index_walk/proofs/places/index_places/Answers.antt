use Rattle.std.proofs.Common.{◌≡◌, ◌∙◌, ◌++◌, ◌∷◌, [], List, map, ap}
use Rattle.bfs_owner.specs.declared.place.Place.{Place}
use Rattle.bfs_index_walk.specs.declared.found.FoundIndex.{FoundIndex}
use Rattle.bfs_index_walk.specs.Indices.{place_at, places_of_found}
use Rattle.bfs_index_walk.proofs.Placing.{places_inside}
use Rattle.bfs_index_walk.proofs.places.index_places.Goals as goal

pub returns-in-Ok-push_found-clause-inside : goal.returns-in-Ok-push_found-clause-inside
returns-in-Ok-push_found-clause-inside c blocks below all =
    let rest : List Place = map (λ (i : FoundIndex). place_at i.id) c.args.found.now in
    let is : c.push_found.new.places.items ≡ places_of_found c.args.directory c.args.found.now =
    c.in-Ok-push_found.ensures.pushed ∙ ap (λ (l : List Place). l ++ rest) c.in-Ok.ensures.pushed ∙ ap (λ (l : List Place). (l ++ (place_at c.args.directory ∷ [])) ++ rest) c.new-places.ensures.items in
    places_inside blocks c.args.directory c.args.found.now c.push_found.new.places.items is below all
