use Rattle.std.proofs.Common.{◌∙◌, List, Option, sym, subst}
use Rattle.bfs_super.specs.Conditions.{natural}
use Rattle.bfs_stream.specs.Told.{contents}
use Rattle.bfs_sound.specs.Volumes.{Volume}
use Rattle.bfs_sound.specs.Whole.{volume_of}
use Rattle.bfs_owner.specs.Owned as owned
use Rattle.bfs_owner.specs.declared.place.Place.{Place}
use Rattle.bfs_nodes_walk.specs.Leads.{places_of_nodes}
use Rattle.bfs_attrs_walk.proofs.Nodes.{are_placed, node_owner, no_node}
use Rattle.bfs_attrs_walk.proofs.owners.find_node.Goals as goal

pub find_owner-requires-clause-inside : goal.find_owner-requires-clause-inside
find_owner-requires-clause-inside g c =
    subst (owned.AreInside (natural c.args.sup.now.num_blocks)) (sym c.deref.ensures.value) (c.in-Ok.ensures.inside (natural c.args.sup.now.num_blocks) c.requires.root_inside c.requires.inside)

pub returns-in-Ok-Some-clause-found : goal.returns-in-Ok-Some-clause-found
returns-in-Ok-Some-clause-found g c m top visits told ways followed =
    let v : Volume = volume_of c.args.sup.now (contents m) in
    let same = c.deref.ensures.value ∙ c.in-Ok.ensures.places in
    let found =
    subst (λ (o : Option Place). owned.IsFound v (places_of_nodes c.args.root c.args.leads.now) c.args.block o) c.in-Ok-Some.field-0-is
    (subst (λ (l : List Place). owned.IsFound v l c.args.block c.in-Ok-Some.field-0) same (c.in-Ok-Some.ensures.found m told)) in
    node_owner v top visits ways c.args.leads.now followed c.args.root c.requires.root c.args.block c.in-Ok-Some.place found.0 found.1

pub returns-in-Ok-None-clause-found : goal.returns-in-Ok-None-clause-found
returns-in-Ok-None-clause-found g c m top visits told ways followed =
    let v : Volume = volume_of c.args.sup.now (contents m) in
    let same = c.deref.ensures.value ∙ c.in-Ok.ensures.places in
    no_node v top visits ways c.args.leads.now followed c.args.root c.requires.root c.args.block
    (subst (λ (o : Option Place). owned.IsFound v (places_of_nodes c.args.root c.args.leads.now) c.args.block o) c.in-Ok-None.field-0-is
    (subst (λ (l : List Place). owned.IsFound v l c.args.block c.in-Ok-None.field-0) same (c.in-Ok-None.ensures.found m told)))

pub returns-clause-wrong : goal.returns-clause-wrong
returns-clause-wrong g c m top visits told ways followed =
    let v : Volume = volume_of c.args.sup.now (contents m) in
    let same = c.deref.ensures.value ∙ c.in-Ok.ensures.places in
    c.in-Err-find_owner.ensures.wrong m told (subst (owned.ArePlaced v) (sym same) (are_placed v top visits ways c.args.leads.now followed c.args.root c.requires.root))
