use Rattle.std.proofs.Common.{◌≡◌, ◌++◌, ◌∷◌, [], ◌∙◌, List, map, sym, ap, subst}
use Rattle.bfs_node_check.specs.declared.role.Role.TheVariants as roles
use Rattle.bfs_owner.specs.Owned as owned
use Rattle.bfs_owner.specs.declared.place.Place.{Place}
use Rattle.bfs_nodes_walk.specs.Leads.{place_of, places_of_nodes}
use Rattle.bfs_nodes_walk.proofs.Placing.{places_inside}
use Rattle.bfs_nodes_walk.proofs.places.node_places.Goals as goal

pub returns-in-Ok-push_nodes-clause-inside : goal.returns-in-Ok-push_nodes-clause-inside
returns-in-Ok-push_nodes-clause-inside c blocks root all =
    let top : List Place = (record { id = c.args.root; role = roles.Root }) ∷ [] in
    let first : c.push_place.new.places.items ≡ top = c.in-Ok.ensures.pushed ∙ ap (λ (x : List Place). x ++ top) c.new-places.ensures.items in
    let places : c.push_nodes.new.places.items ≡ places_of_nodes c.args.root c.args.leads.now = c.in-Ok-push_nodes.ensures.pushed ∙ ap (λ (x : List Place). x ++ map place_of c.args.leads.now) first in
    subst (owned.AreInside blocks) (sym places) (root, places_inside blocks c.args.leads.now all)
