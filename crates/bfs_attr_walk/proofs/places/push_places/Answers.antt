use Rattle.std.proofs.Common.{rules, ◌≡◌, ◌≤◌, ◌<◌, ◌+◌, ◌++◌, ◌∷◌, [], ◌∙◌, List, length, take, get_or, sym, ap, subst, arith, append_assoc, append-nil}
use Rattle.std.proofs.lemmas.List.{take_more, take_all}
use Rattle.bfs_owner.specs.Owned.{AreInside}
use Rattle.bfs_owner.specs.declared.place.Place.{Place}
use Rattle.bfs_names_walk.specs.declared.row.NameRow.{NameRow}
use Rattle.bfs_attr_walk.specs.Attributed.{places_of_rows}
use Rattle.bfs_attr_walk.proofs.Placing.{places_more, places_inside}
use Rattle.bfs_attr_walk.proofs.places.push_places.Goals as goal

pub loop-i-init : goal.loop-i-init
loop-i-init c = sym (append-nil c.args.places.now.items)

pub loop-i-preserved : goal.loop-i-preserved
loop-i-preserved c =
    let r : NameRow = c.index-rows-i.result in
    let rows : List NameRow = c.args.rows.now in
    let role = c.args.role in
    let item : r ≡ get_or rows c.loop-i.i r = search rules in
    let inside : c.loop-i.i < length rows = c.loop-i-test.true in
    let more : take (c.loop-i.i + 1) rows ≡ take c.loop-i.i rows ++ r ∷ [] = take_more rows c.loop-i.i r inside ∙ ap (λ (x : NameRow). take c.loop-i.i rows ++ x ∷ []) (sym item) in
    c.in-Ok.ensures.pushed
    ∙ ap (λ (x : List Place). x ++ places_of_rows role (r ∷ [])) c.loop-i.invariant
    ∙ append_assoc c.args.places.now.items (places_of_rows role (take c.loop-i.i rows)) (places_of_rows role (r ∷ []))
    ∙ ap (λ (x : List Place). c.args.places.now.items ++ x) (sym (places_more role (take c.loop-i.i rows) (r ∷ [])) ∙ ap (places_of_rows role) (sym more))

pub returns-clause-pushed : goal.returns-clause-pushed
returns-clause-pushed c =
    let behind : length c.args.rows.now ≤ c.loop-i.i = omega arith in
    c.loop-i.invariant ∙ ap (λ (x : List NameRow). c.args.places.now.items ++ places_of_rows c.args.role x) (take_all c.loop-i.i c.args.rows.now behind)

pub returns-clause-inside : goal.returns-clause-inside
returns-clause-inside c blocks all before =
    let behind : length c.args.rows.now ≤ c.loop-i.i = omega arith in
    let pushed = c.loop-i.invariant ∙ ap (λ (x : List NameRow). c.args.places.now.items ++ places_of_rows c.args.role x) (take_all c.loop-i.i c.args.rows.now behind) in
    subst (AreInside blocks) (sym pushed) (places_inside c.args.role blocks c.args.places.now.items c.args.rows.now before all)
