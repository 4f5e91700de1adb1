use Rattle.std.proofs.Common.{◌≡◌, ◌∙◌, List, Some, None, ap, sym, subst}
use Rattle.bfs_super.specs.Conditions.{natural, block_of_run}
use Rattle.bfs_super.specs.declared.geometry.Geometry.{Geometry}
use Rattle.bfs_stream.specs.Told.{contents}
use Rattle.bfs_sound.specs.Volumes.{Volume}
use Rattle.bfs_sound.specs.Inodes.{index_directory}
use Rattle.bfs_sound.specs.Whole.{volume_of}
use Rattle.bfs_owner.specs.Owned.{AreInside, ArePlaced, IsFound}
use Rattle.bfs_owner.specs.declared.place.Place.{Place}
use Rattle.bfs_index_walk.specs.Indices.{places_of_found}
use Rattle.bfs_index_walk.proofs.Placed.{is_there, is_none, is_inside, no_blocks}
use Rattle.bfs_index_walk.proofs.Owning.{none_owner, found_placed, owner_found, none_has}
use Rattle.bfs_index_walk.proofs.owners.find_index_owner.Goals as goal

pub returns-then-directory-eq0-clause-owner : goal.returns-then-directory-eq0-clause-owner
returns-then-directory-eq0-clause-owner g c m first claims told walked =
    let v : Volume = volume_of c.args.sup.now (contents m) in
    let there : c.geometry-directory.result.indices ≡ block_of_run c.args.sup.now c.args.sup.now.indices = ap (λ (x : Geometry). x.indices) c.geometry-directory.ensures in
    none_owner v c.args.block (no_blocks v first claims (is_none c.args.sup.now (contents m) c.geometry-directory.result.indices there c.if-directory-eq0.true))

pub find_owner-requires-clause-inside : goal.find_owner-requires-clause-inside
find_owner-requires-clause-inside g c =
    let there : c.geometry-directory.result.indices ≡ block_of_run c.args.sup.now c.args.sup.now.indices = ap (λ (x : Geometry). x.indices) c.geometry-directory.ensures in
    subst (AreInside (natural c.args.sup.now.num_blocks)) (sym c.deref.ensures.value)
    (c.in-Ok.ensures.inside (natural c.args.sup.now.num_blocks) (is_inside c.args.sup.now c.geometry-directory.result.indices c.requires.valid there c.if-directory-eq0.false) c.requires.inside)

pub returns-in-Err-find_owner-clause-wrong : goal.returns-in-Err-find_owner-clause-wrong
returns-in-Err-find_owner-clause-wrong g c m first claims told walked =
    let v : Volume = volume_of c.args.sup.now (contents m) in
    let there : c.geometry-directory.result.indices ≡ block_of_run c.args.sup.now c.args.sup.now.indices = ap (λ (x : Geometry). x.indices) c.geometry-directory.ensures in
    let is : index_directory v ≡ Some c.geometry-directory.result.indices = is_there c.args.sup.now (contents m) c.geometry-directory.result.indices there c.if-directory-eq0.false in
    let items : c.deref.result.now ≡ places_of_found c.geometry-directory.result.indices c.args.found.now = c.deref.ensures.value ∙ c.in-Ok.ensures.places in
    c.in-Err-find_owner.ensures.wrong m told (subst (ArePlaced v) (sym items) (found_placed v c.geometry-directory.result.indices is c.args.found.now walked.indices))

pub returns-in-Some-clause-owner : goal.returns-in-Some-clause-owner
returns-in-Some-clause-owner g c m first claims told walked =
    let v : Volume = volume_of c.args.sup.now (contents m) in
    let there : c.geometry-directory.result.indices ≡ block_of_run c.args.sup.now c.args.sup.now.indices = ap (λ (x : Geometry). x.indices) c.geometry-directory.ensures in
    let is : index_directory v ≡ Some c.geometry-directory.result.indices = is_there c.args.sup.now (contents m) c.geometry-directory.result.indices there c.if-directory-eq0.false in
    let items : c.deref.result.now ≡ places_of_found c.geometry-directory.result.indices c.args.found.now = c.deref.ensures.value ∙ c.in-Ok.ensures.places in
    owner_found v c.geometry-directory.result.indices is c.args.found.now walked.indices c.args.block c.in-Some.place
    (subst (λ (l : List Place). IsFound v l c.args.block (Some c.in-Some.place)) items (subst (IsFound v c.deref.result.now c.args.block) c.in-Some.is (c.in-Ok-find_owner.ensures.found m told)))

pub returns-clause-owner : goal.returns-clause-owner
returns-clause-owner g c m first claims told walked =
    let v : Volume = volume_of c.args.sup.now (contents m) in
    let there : c.geometry-directory.result.indices ≡ block_of_run c.args.sup.now c.args.sup.now.indices = ap (λ (x : Geometry). x.indices) c.geometry-directory.ensures in
    let is : index_directory v ≡ Some c.geometry-directory.result.indices = is_there c.args.sup.now (contents m) c.geometry-directory.result.indices there c.if-directory-eq0.false in
    let items : c.deref.result.now ≡ places_of_found c.geometry-directory.result.indices c.args.found.now = c.deref.ensures.value ∙ c.in-Ok.ensures.places in
    none_has v c.geometry-directory.result.indices is c.args.found.now walked.indices c.args.block
    (subst (λ (l : List Place). IsFound v l c.args.block None) items (subst (IsFound v c.deref.result.now c.args.block) c.in-None.is (c.in-Ok-find_owner.ensures.found m told)))
