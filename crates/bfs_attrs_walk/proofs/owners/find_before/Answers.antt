use Rattle.std.proofs.Common.{◌∙◌, inl, inr, Option, ℕ, sym, subst}
use Rattle.bfs_stream.specs.Told.{contents}
use Rattle.bfs_sound.specs.Volumes.{Volume}
use Rattle.bfs_sound.specs.Whole.{volume_of}
use Rattle.bfs_finding.specs.Ways.{IsReached, root_reached}
use Rattle.bfs_attrs_walk.specs.Passes.{attribute_blocks, blocks_of_leads, IsWayFrom, IsWayFromSome, IsWayFromAny, IsOwnerFound}
use Rattle.bfs_attrs_walk.proofs.Searched.{widen, found_behind}
use Rattle.bfs_attrs_walk.proofs.owners.find_before.Goals as goal

pub find_among-requires-clause-all : goal.find_among-requires-clause-all
find_among-requires-clause-all g c m told = c.requires.all m (sym c.in-Ok-None.ensures.told ∙ told)

pub find_among-requires-clause-have : goal.find_among-requires-clause-have
find_among-requires-clause-have g c m told = c.requires.those m (sym c.in-Ok-None.ensures.told ∙ told)

pub returns-in-Ok-Some-clause-found : goal.returns-in-Ok-Some-clause-found
returns-in-Ok-Some-clause-found g c m told reached =
    let v : Volume = volume_of c.args.sup.now (contents m) in
    widen v c.args.block (IsWayFrom c.args.root) (IsWayFromAny c.args.root c.args.leads.now) (λ way f. inl f) c.in-Ok-Some.owner
    (subst (λ (o : Option ℕ). IsOwnerFound (IsWayFrom c.args.root) v (attribute_blocks v c.args.root) c.args.block o) c.in-Ok-Some.field-0-is
    (c.in-Ok-Some.ensures.found m told (subst (IsReached v) (sym c.requires.root) root_reached)))

pub returns-in-Err-clause-wrong : goal.returns-in-Err-clause-wrong
returns-in-Err-clause-wrong g c m told reached = c.in-Err.ensures.wrong m told (subst (IsReached (volume_of c.args.sup.now (contents m))) (sym c.requires.root) root_reached)

pub returns-in-Ok-clause-found : goal.returns-in-Ok-clause-found
returns-in-Ok-clause-found g c m told reached =
    let v : Volume = volume_of c.args.sup.now (contents m) in
    let none =
    subst (λ (o : Option ℕ). IsOwnerFound (IsWayFrom c.args.root) v (attribute_blocks v c.args.root) c.args.block o) c.in-Ok-None.field-0-is
    (c.in-Ok-None.ensures.found m told (subst (IsReached v) (sym c.requires.root) root_reached)) in
    found_behind v c.args.block (IsWayFromSome c.args.leads.now) (IsWayFromAny c.args.root c.args.leads.now) (λ way f. inr f) (attribute_blocks v c.args.root) (blocks_of_leads v c.args.leads.now) c.in-Ok.found none
    (c.in-Ok.ensures.found m (c.in-Ok-None.ensures.told ∙ told) reached)
