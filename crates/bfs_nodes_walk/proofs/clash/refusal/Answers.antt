use Rattle.std.proofs.Common.{◌++◌, List, subst}
use Rattle.bfs_stream.specs.Told.{contents}
use Rattle.bfs_sound.specs.Volumes.{Volume}
use Rattle.bfs_sound.specs.Whole.{volume_of}
use Rattle.bfs_inode_walk.specs.Visited.{IsTakenFirst}
use Rattle.bfs_inode_walk.specs.declared.fault.VisitFault.TheVariants.{Taken}
use Rattle.bfs_owner.specs.Owned.{IsFound, blocks_of_places}
use Rattle.bfs_owner.specs.declared.place.Place.{Place}
use Rattle.bfs_nodes_walk.specs.Clashes.{IsApart}
use Rattle.bfs_nodes_walk.specs.Leads.{places_of_nodes}
use Rattle.bfs_nodes_walk.specs.Walks.{IsNodeWay}
use Rattle.bfs_nodes_walk.proofs.Clashing.{apart_placed, found_shared, left_first}
use Rattle.bfs_nodes_walk.proofs.clash.refusal.Goals as goal

pub returns-in-Ok-Some-clause-wrong : goal.returns-in-Ok-Some-clause-wrong
returns-in-Ok-Some-clause-wrong g c m told true apart =
    let v : Volume = volume_of c.args.sup.now (contents m) in
    let places : List Place = places_of_nodes c.args.root c.args.leads.now in
    let a : IsApart v places (Taken c.in-Taken.block c.in-Taken.owner) = subst (IsApart v places) c.in-Taken.is apart in
    let found = subst (IsFound v places c.in-Taken.block) c.in-Ok-Some.field-0-is (c.in-Ok-Some.ensures.found m told) in
    found_shared v places c.in-Ok-Some.place c.in-Taken.block c.in-Taken.owner a.0 a.1 a.2 a.3 found.0 found.1

pub returns-in-Ok-None-clause-taken : goal.returns-in-Ok-None-clause-taken
returns-in-Ok-None-clause-taken g c m first told taken =
    let v : Volume = volume_of c.args.sup.now (contents m) in
    let places : List Place = places_of_nodes c.args.root c.args.leads.now in
    left_first v first places c.in-Taken.block c.in-Taken.owner
    (subst (IsFound v places c.in-Taken.block) c.in-Ok-None.field-0-is (c.in-Ok-None.ensures.found m told))
    (subst (IsTakenFirst IsNodeWay v (first ++ blocks_of_places v places)) c.in-Taken.is taken)

pub returns-in-Err-clause-wrong : goal.returns-in-Err-clause-wrong
returns-in-Err-clause-wrong g c m told true apart =
    let v : Volume = volume_of c.args.sup.now (contents m) in
    let places : List Place = places_of_nodes c.args.root c.args.leads.now in
    let a : IsApart v places (Taken c.in-Taken.block c.in-Taken.owner) = subst (IsApart v places) c.in-Taken.is apart in
    c.in-Err.ensures.wrong m told (apart_placed v a.0 places a.3)
