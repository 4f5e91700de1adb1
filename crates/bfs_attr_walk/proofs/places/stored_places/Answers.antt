use Rattle.std.proofs.Common.{rules, ◌≡◌, ◌∷◌, [], List, sym, subst}
use Rattle.bfs_node_check.specs.declared.role.Role.TheVariants as roles
use Rattle.bfs_owner.specs.Owned.{AreInside}
use Rattle.bfs_owner.specs.declared.place.Place.{Place}
use Rattle.bfs_attr_walk.proofs.places.stored_places.Goals as goal

pub returns-in-Ok-push_places-clause-inside : goal.returns-in-Ok-push_places-clause-inside
returns-in-Ok-push_places-clause-inside c blocks low all =
    let first : List Place = (record { id = c.args.directory; role = roles.AttributeDirectory }) ∷ [] in
    let items : c.push.new.self.items ≡ first = search rules in
    c.in-Ok-push_places.ensures.inside blocks all (subst (AreInside blocks) (sym items) (low, tt))
