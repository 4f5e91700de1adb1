use Rattle.std.proofs.Common.{rules, ◌≡◌, ◌∙◌, List, ◌++◌, false, sym, ap, append-nil}
use Rattle.bfs_sound.specs.Inodes.{is_proper}
use Rattle.bfs_owner.specs.declared.place.Place.{Place}
use Rattle.bfs_attr_walk.proofs.Placing.{no_place}
use Rattle.bfs_attr_walk.proofs.places.push_place.Goals as goal

pub returns-then-not-named-clause-pushed : goal.returns-then-not-named-clause-pushed
returns-then-not-named-clause-pushed c =
    let slice : c.as_slice.result.now ≡ c.args.row.now.name = search rules in
    let dots : is_proper c.args.row.now.name ≡ false = sym (c.is_proper_name-named.ensures ∙ ap is_proper slice) ∙ c.if-not-named.true in
    sym (append-nil c.args.places.now.items) ∙ ap (λ (l : List Place). c.args.places.now.items ++ l) (sym (no_place c.args.role c.args.row.now dots))
