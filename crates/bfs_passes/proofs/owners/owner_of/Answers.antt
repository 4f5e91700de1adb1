use Rattle.std.proofs.Common.{◌∙◌, ◌∷◌}
use Rattle.bfs_stream.specs.Told.{contents}
use Rattle.bfs_sound.specs.Whole.{volume_of}
use Rattle.bfs_indices_check.specs.Laws.{system_blocks}
use Rattle.bfs_passes.proofs.Owning.{node_owns, index_owns, system_owns}
use Rattle.bfs_passes.proofs.owners.owner_of.Goals as goal

pub returns-in-Ok-Some-clause-owned : goal.returns-in-Ok-Some-clause-owned
returns-in-Ok-Some-clause-owned g c m all told gone there =
    let v = volume_of c.args.sup.now (contents m) in
    let w = gone.whole in
    let o = node_owns v (w.top ∷ w.visits) c.args.block c.in-Ok-Some.field-0 c.in-Ok-Some.owner c.in-Ok-Some.field-0-is (c.in-Ok-Some.ensures.found m (system_blocks v) gone.nodes w told) in
    (o.0, o.2, o.3)

pub returns-in-Err-clause-wrong : goal.returns-in-Err-clause-wrong
returns-in-Err-clause-wrong g c m all told gone = c.in-Err.ensures.wrong m told

pub returns-in-Ok-Some-find_index_owner-clause-owned : goal.returns-in-Ok-Some-find_index_owner-clause-owned
returns-in-Ok-Some-find_index_owner-clause-owned g c m all told gone there =
    let v = volume_of c.args.sup.now (contents m) in
    index_owns v c.args.block c.in-Ok-Some-find_index_owner.field-0 c.in-Ok-Some-find_index_owner.owner c.in-Ok-Some-find_index_owner.field-0-is (c.in-Ok-Some-find_index_owner.ensures.owner m _ all (c.in-Ok-None.ensures.told ∙ told) gone.indices)

pub returns-in-Ok-None-find_index_owner-clause-owned : goal.returns-in-Ok-None-find_index_owner-clause-owned
returns-in-Ok-None-find_index_owner-clause-owned g c m all told gone there =
    let v = volume_of c.args.sup.now (contents m) in
    let w = gone.whole in
    system_owns v (w.top ∷ w.visits) c.args.block c.in-Ok-None.field-0 c.in-Ok-None-find_index_owner.field-0 c.in-Ok-None.field-0-is c.in-Ok-None-find_index_owner.field-0-is
    (c.in-Ok-None.ensures.found m (system_blocks v) gone.nodes w told) (c.in-Ok-None-find_index_owner.ensures.owner m _ all (c.in-Ok-None.ensures.told ∙ told) gone.indices) there

pub returns-in-Err-find_index_owner-clause-wrong : goal.returns-in-Err-find_index_owner-clause-wrong
returns-in-Err-find_index_owner-clause-wrong g c m all told gone = c.in-Err-find_index_owner.ensures.wrong m _ all (c.in-Ok-None.ensures.told ∙ told) gone.indices
