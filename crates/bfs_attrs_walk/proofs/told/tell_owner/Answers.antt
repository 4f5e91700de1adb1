use Rattle.std.proofs.Common.{◌++◌, ◌∷◌, Option, ℕ, subst}
use Rattle.bfs_stream.specs.Told.{contents}
use Rattle.bfs_sound.specs.Volumes.{Volume}
use Rattle.bfs_sound.specs.Attributes.{attribute_directory}
use Rattle.bfs_sound.specs.Whole.{volume_of}
use Rattle.bfs_nodes_walk.specs.Walks.{blocks_of_visits}
use Rattle.bfs_attrs_walk.specs.Passes.{id_of, attribute_blocks, blocks_of_leads, IsTakenIn, IsOwnerFound}
use Rattle.bfs_attrs_walk.proofs.Searched.{Either}
use Rattle.bfs_attrs_walk.proofs.Telling.{before_reached, row_shared, row_first}
use Rattle.bfs_attrs_walk.proofs.told.tell_owner.Goals as goal

pub returns-in-Ok-None-clause-taken : goal.returns-in-Ok-None-clause-taken
returns-in-Ok-None-clause-taken g c m xs claims w l back told parts t =
    let v : Volume = volume_of c.args.sup.now (contents m) in
    let nodes = blocks_of_visits v (w.top ∷ w.visits) in
    let others = blocks_of_leads v c.args.before.now in
    let reached = before_reached v c.in-Taken.block xs claims c.args.leads.now w c.args.root c.requires.root c.args.before.now l back parts in
    row_first v c.in-Taken.block xs claims c.args.leads.now w c.args.root c.requires.root c.args.before.now l back parts nodes others c.in-Taken.owner
    (subst (λ (o : Option ℕ). IsOwnerFound (Either c.args.root c.args.before.now) v (nodes ++ (attribute_blocks v c.args.root ++ others)) c.in-Taken.block o) c.in-Ok-None.field-0-is
    (c.in-Ok-None.ensures.found m w.top w.visits told w.ways w.followed reached))
    (subst (IsTakenIn v (((xs ++ nodes) ++ attribute_blocks v c.args.root) ++ others) (attribute_directory v (id_of l))) c.in-Taken.is t)

pub returns-in-Ok-Some-clause-wrong : goal.returns-in-Ok-Some-clause-wrong
returns-in-Ok-Some-clause-wrong g c m xs claims w l back before told parts t true =
    let v : Volume = volume_of c.args.sup.now (contents m) in
    let nodes = blocks_of_visits v (w.top ∷ w.visits) in
    let others = blocks_of_leads v c.args.before.now in
    let reached = before_reached v c.in-Taken.block xs claims c.args.leads.now w c.args.root c.requires.root c.args.before.now l back parts in
    row_shared v c.in-Taken.block xs claims c.args.leads.now w c.args.root c.requires.root c.args.before.now l back parts before c.in-Ok-Some.first c.in-Taken.owner
    (subst (λ (o : Option ℕ). IsOwnerFound (Either c.args.root c.args.before.now) v (nodes ++ (attribute_blocks v c.args.root ++ others)) c.in-Taken.block o) c.in-Ok-Some.field-0-is
    (c.in-Ok-Some.ensures.found m w.top w.visits told w.ways w.followed reached))
    (subst (IsTakenIn v before (attribute_directory v (id_of l))) c.in-Taken.is t)

pub returns-in-Err-clause-wrong : goal.returns-in-Err-clause-wrong
returns-in-Err-clause-wrong g c m xs claims w l back before told parts t true =
    let v : Volume = volume_of c.args.sup.now (contents m) in
    c.in-Err.ensures.wrong m w.top w.visits told w.ways w.followed
    (before_reached v c.in-Taken.block xs claims c.args.leads.now w c.args.root c.requires.root c.args.before.now l back parts)
