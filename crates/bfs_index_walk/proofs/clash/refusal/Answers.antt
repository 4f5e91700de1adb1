use Rattle.std.proofs.Common.{◌++◌, subst}
use Rattle.bfs_stream.specs.Told.{contents}
use Rattle.bfs_sound.specs.Volumes.{Volume}
use Rattle.bfs_sound.specs.Whole.{volume_of}
use Rattle.bfs_inode_walk.specs.declared.fault.VisitFault.TheVariants.{Taken}
use Rattle.bfs_owner.specs.Owned.{IsFound, blocks_of_places}
use Rattle.bfs_attrs_walk.specs.Attributed.{IsTakenIn}
use Rattle.bfs_index_walk.specs.Indices.{places_by_rows}
use Rattle.bfs_index_walk.proofs.Clashing.{are_placed, is_shared, not_there}
use Rattle.bfs_index_walk.proofs.clash.refusal.Goals as goal

pub returns-in-Err-clause-wrong : goal.returns-in-Err-clause-wrong
returns-in-Err-clause-wrong g c m before row back told are is_true taken =
    let v : Volume = volume_of c.args.sup.now (contents m) in
    let t : IsTakenIn v before row (Taken c.in-Taken.block c.in-Taken.owner) = subst (IsTakenIn v before row) c.in-Taken.is taken in
    c.in-Err.ensures.wrong m told (are_placed v c.args.directory c.args.rows.now row back are t.0)

pub returns-in-Some-clause-wrong : goal.returns-in-Some-clause-wrong
returns-in-Some-clause-wrong g c m before row back told are is_true taken =
    let v : Volume = volume_of c.args.sup.now (contents m) in
    let t : IsTakenIn v before row (Taken c.in-Taken.block c.in-Taken.owner) = subst (IsTakenIn v before row) c.in-Taken.is taken in
    is_shared v c.args.directory c.args.rows.now row back are t.0 c.in-Taken.block c.in-Taken.owner t.1 t.2 c.in-Some.place
    (subst (IsFound v (places_by_rows c.args.directory c.args.rows.now) c.in-Taken.block) c.in-Some.is (c.in-Ok.ensures.found m told))

pub returns-in-None-clause-taken : goal.returns-in-None-clause-taken
returns-in-None-clause-taken g c m before row told taken =
    let v : Volume = volume_of c.args.sup.now (contents m) in
    let t : IsTakenIn v (before ++ blocks_of_places v (places_by_rows c.args.directory c.args.rows.now)) row (Taken c.in-Taken.block c.in-Taken.owner) =
    subst (IsTakenIn v (before ++ blocks_of_places v (places_by_rows c.args.directory c.args.rows.now)) row) c.in-Taken.is taken in
    (t.0, t.1, t.2, not_there v before (places_by_rows c.args.directory c.args.rows.now) c.in-Taken.block (subst (IsFound v (places_by_rows c.args.directory c.args.rows.now) c.in-Taken.block) c.in-None.is (c.in-Ok.ensures.found m told)) t.3)
