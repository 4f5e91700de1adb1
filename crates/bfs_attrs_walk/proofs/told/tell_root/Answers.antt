use Rattle.std.proofs.Common.{◌++◌, ◌∷◌, Option, ℕ, sym, subst}
use Rattle.bfs_stream.specs.Told.{contents}
use Rattle.bfs_sound.specs.Volumes.{Volume}
use Rattle.bfs_sound.specs.Attributes.{attribute_directory}
use Rattle.bfs_sound.specs.Whole.{volume_of}
use Rattle.bfs_finding.specs.Ways.{IsReached, root_reached}
use Rattle.bfs_nodes_walk.specs.Walks.{IsNodeWay, blocks_of_visits}
use Rattle.bfs_attrs_walk.specs.Passes.{IsTakenIn, IsOwnerFound}
use Rattle.bfs_attrs_walk.proofs.Telling.{root_shared, root_first}
use Rattle.bfs_attrs_walk.proofs.told.tell_root.Goals as goal

pub returns-in-Ok-None-clause-taken : goal.returns-in-Ok-None-clause-taken
returns-in-Ok-None-clause-taken g c m xs claims w told t =
    let v : Volume = volume_of c.args.sup.now (contents m) in
    let nodes = blocks_of_visits v (w.top ∷ w.visits) in
    root_first v c.in-Taken.block xs nodes c.args.root c.in-Taken.owner (subst (IsReached v) (sym c.requires.root) root_reached)
    (subst (λ (o : Option ℕ). IsOwnerFound IsNodeWay v nodes c.in-Taken.block o) c.in-Ok-None.field-0-is (c.in-Ok-None.ensures.found m w.top w.visits told w.ways w.followed))
    (subst (IsTakenIn v (xs ++ nodes) (attribute_directory v c.args.root)) c.in-Taken.is t)

pub returns-in-Ok-Some-clause-wrong : goal.returns-in-Ok-Some-clause-wrong
returns-in-Ok-Some-clause-wrong g c m xs claims w before told t true =
    let v : Volume = volume_of c.args.sup.now (contents m) in
    let nodes = blocks_of_visits v (w.top ∷ w.visits) in
    root_shared v c.in-Taken.block before c.args.root c.in-Ok-Some.first c.in-Taken.owner (subst (IsReached v) (sym c.requires.root) root_reached)
    (subst (λ (o : Option ℕ). IsOwnerFound IsNodeWay v nodes c.in-Taken.block o) c.in-Ok-Some.field-0-is (c.in-Ok-Some.ensures.found m w.top w.visits told w.ways w.followed))
    (subst (IsTakenIn v before (attribute_directory v c.args.root)) c.in-Taken.is t)

pub returns-in-Err-clause-wrong : goal.returns-in-Err-clause-wrong
returns-in-Err-clause-wrong g c m xs claims w before told t true = c.in-Err.ensures.wrong m w.top w.visits told w.ways w.followed
