use Rattle.std.proofs.Common.{◌++◌, Option, subst}
use Rattle.bfs_stream.specs.Told.{contents}
use Rattle.bfs_sound.specs.Whole.{volume_of}
use Rattle.bfs_sound.specs.Volumes.{Volume}
use Rattle.bfs_sound.specs.Inodes.{inode_blocks}
use Rattle.bfs_owner.specs.Owned.{IsFound}
use Rattle.bfs_owner.specs.declared.place.Place.{Place}
use Rattle.bfs_attr_walk.specs.Attributed.{IsTakenIn, row_blocks, places_in}
use Rattle.bfs_attr_walk.proofs.Owning.{taken_before, are_placed, before_there, shared_before}
use Rattle.bfs_attr_walk.proofs.owner.tell_owner.Goals as goal

pub returns-in-Ok-None-clause-taken : goal.returns-in-Ok-None-clause-taken
returns-in-Ok-None-clause-taken g c m xs row told t =
    let v : Volume = volume_of c.args.sup.now (contents m) in
    taken_before v xs c.args.directory c.args.rows.now row c.in-Taken.block c.in-Taken.owner
    (subst (IsTakenIn v ((xs ++ inode_blocks v c.args.directory) ++ row_blocks v c.args.rows.now) row) c.in-Taken.is t)
    (subst (λ (o : Option Place). IsFound v (places_in c.args.directory c.args.rows.now) c.in-Taken.block o) c.in-Ok-None.field-0-is (c.in-Ok-None.ensures.found m told))

pub returns-in-Ok-Some-clause-wrong : goal.returns-in-Ok-Some-clause-wrong
returns-in-Ok-Some-clause-wrong g c m id before row back told reached dir names inside true t =
    let v : Volume = volume_of c.args.sup.now (contents m) in
    let taken = subst (IsTakenIn v before row) c.in-Taken.is t in
    let found = subst (λ (o : Option Place). IsFound v (places_in c.args.directory c.args.rows.now) c.in-Taken.block o) c.in-Ok-Some.field-0-is (c.in-Ok-Some.ensures.found m told) in
    shared_before v id c.args.directory reached dir c.args.rows.now row back names inside taken.0 before c.in-Taken.block c.in-Taken.owner c.in-Ok-Some.place taken found.0 found.1

pub returns-in-Err-clause-wrong : goal.returns-in-Err-clause-wrong
returns-in-Err-clause-wrong g c m id before row back told reached dir names inside true t =
    let v : Volume = volume_of c.args.sup.now (contents m) in
    let taken = subst (IsTakenIn v before row) c.in-Taken.is t in
    c.in-Err.ensures.wrong m told (are_placed v id c.args.directory reached dir c.args.rows.now (before_there v id c.args.directory reached dir c.args.rows.now row back names inside taken.0))
