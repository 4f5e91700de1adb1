use Rattle.std.proofs.Common.{◌∙◌, List, Option, sym, subst}
use Rattle.bfs_stream.specs.Told.{contents}
use Rattle.bfs_sound.specs.Volumes.{Volume}
use Rattle.bfs_sound.specs.Whole.{volume_of}
use Rattle.bfs_finding.specs.Ways.{of_attributes}
use Rattle.bfs_owner.specs.Owned.{IsFound, ArePlaced}
use Rattle.bfs_owner.specs.declared.place.Place.{Place}
use Rattle.bfs_names_walk.specs.declared.row.NameRow.{NameRow}
use Rattle.bfs_attr_walk.specs.Attributed.{places_in}
use Rattle.bfs_attrs_walk.proofs.Stored.{all_placed, stored_owner, none_stored}
use Rattle.bfs_attrs_walk.proofs.owners.find_in_directory.Goals as goal

pub returns-in-Err-clause-wrong : goal.returns-in-Err-clause-wrong
returns-in-Err-clause-wrong g c m id told reached is = c.in-Err.ensures.wrong m told (of_attributes id c.args.directory (reached, is))

pub returns-in-Ok-Some-clause-found : goal.returns-in-Ok-Some-clause-found
returns-in-Ok-Some-clause-found g c m id told reached is =
    let v : Volume = volume_of c.args.sup.now (contents m) in
    let found =
    subst (λ (o : Option Place). IsFound v (places_in c.args.directory c.in-Ok.rows.items) c.args.block o) c.in-Ok-Some.field-0-is
    (subst (λ (l : List NameRow). IsFound v (places_in c.args.directory l) c.args.block c.in-Ok-Some.field-0) c.deref.ensures.value (c.in-Ok-Some.ensures.found m (c.in-Ok.ensures.told ∙ told))) in
    stored_owner v id c.args.directory c.in-Ok.rows.items reached is (c.in-Ok.ensures.names m told) c.in-Ok.ensures.inside c.args.block c.in-Ok-Some.place found.0 found.1

pub returns-in-Ok-None-clause-found : goal.returns-in-Ok-None-clause-found
returns-in-Ok-None-clause-found g c m id told reached is =
    let v : Volume = volume_of c.args.sup.now (contents m) in
    none_stored v id c.args.directory c.in-Ok.rows.items reached is (c.in-Ok.ensures.names m told) c.in-Ok.ensures.inside c.args.block
    (subst (λ (o : Option Place). IsFound v (places_in c.args.directory c.in-Ok.rows.items) c.args.block o) c.in-Ok-None.field-0-is
    (subst (λ (l : List NameRow). IsFound v (places_in c.args.directory l) c.args.block c.in-Ok-None.field-0) c.deref.ensures.value (c.in-Ok-None.ensures.found m (c.in-Ok.ensures.told ∙ told))))

pub returns-clause-wrong : goal.returns-clause-wrong
returns-clause-wrong g c m id told reached is =
    let v : Volume = volume_of c.args.sup.now (contents m) in
    c.in-Err-find_stored.ensures.wrong m (c.in-Ok.ensures.told ∙ told)
    (subst (λ (l : List NameRow). ArePlaced v (places_in c.args.directory l)) (sym c.deref.ensures.value) (all_placed v id c.args.directory c.in-Ok.rows.items reached is (c.in-Ok.ensures.names m told) c.in-Ok.ensures.inside))
