use Rattle.std.proofs.Common.{rules, ◌≡◌, ◌≤◌, ◌<◌, ◌+◌, ◌++◌, ◌∷◌, [], ◌∙◌, List, length, take, get_or, map, sym, ap, arith, append_assoc, append-nil}
use Rattle.std.proofs.lemmas.List.{take_more, take_all}
use Rattle.bfs_owner.specs.declared.place.Place.{Place}
use Rattle.bfs_nodes_walk.specs.declared.lead.NodeLead.{NodeLead}
use Rattle.bfs_nodes_walk.specs.Leads.{place_of}
use Rattle.bfs_nodes_walk.proofs.Placing.{places_more}
use Rattle.bfs_nodes_walk.proofs.places.push_nodes.Goals as goal

pub loop-i-init : goal.loop-i-init
loop-i-init c = sym (append-nil c.args.places.now.items)

pub loop-i-preserved : goal.loop-i-preserved
loop-i-preserved c =
    let r : NodeLead = c.index-leads-i.result in
    let leads : List NodeLead = c.args.leads.now in
    let item : r ≡ get_or leads c.loop-i.i r = search rules in
    let inside : c.loop-i.i < length leads = c.loop-i-test.true in
    let more : take (c.loop-i.i + 1) leads ≡ take c.loop-i.i leads ++ r ∷ [] = take_more leads c.loop-i.i r inside ∙ ap (λ (x : NodeLead). take c.loop-i.i leads ++ x ∷ []) (sym item) in
    c.in-Ok.ensures.pushed
    ∙ ap (λ (x : List Place). x ++ place_of r ∷ []) c.loop-i.invariant
    ∙ append_assoc c.args.places.now.items (map place_of (take c.loop-i.i leads)) (place_of r ∷ [])
    ∙ ap (λ (x : List Place). c.args.places.now.items ++ x) (sym (places_more (take c.loop-i.i leads) (r ∷ [])) ∙ ap (map place_of) (sym more))

pub returns-clause-pushed : goal.returns-clause-pushed
returns-clause-pushed c =
    let behind : length c.args.leads.now ≤ c.loop-i.i = omega arith in
    c.loop-i.invariant ∙ ap (λ (x : List NodeLead). c.args.places.now.items ++ map place_of x) (take_all c.loop-i.i c.args.leads.now behind)
