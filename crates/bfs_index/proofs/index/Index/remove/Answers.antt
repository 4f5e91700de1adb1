use Rattle.std.proofs.Common.{sym, subst}
use Rattle.std.specs.Prelude.{OnOk, IfErr}
use Rattle.bfs_maps.specs.Mapped.{HasHeld}
use Rattle.bfs_maps.specs.Refused.{IsTakingFault}
use Rattle.bfs_index.specs.Indices.{Place, IsIndex, HasTaken}
use Rattle.bfs_index.specs.Refused.{IsPairPage}
use Rattle.bfs_index.proofs.index.Index.remove.Goals as goal

pub take_pair-requires-clause-stream : goal.take_pair-requires-clause-stream
take_pair-requires-clause-stream g c m told = subst (λ (x : Place). HasHeld x.origin c.args.bitmap.now m) (sym c.self.view_is) (c.requires.stream m told)

pub returns-clause-taken : goal.returns-clause-taken
returns-clause-taken g c m told d =
    let v = c.args.bitmap.now in
    let d_p = subst (λ (x : Place). IsIndex x v m) (sym c.self.view_is) d in
    subst (λ (x : Place). OnOk c.take_pair.result (HasTaken x v c.take_pair.new.bitmap m c.args.key.now c.args.id (g.E.Blocks.told c.take_pair.new.edits) (g.E.Blocks.changed c.args.edits.now) (g.E.Blocks.changed c.take_pair.new.edits))) c.self.view_is
    (c.take_pair.ensures.taken m told d_p)

pub returns-clause-refused : goal.returns-clause-refused
returns-clause-refused g c m told d =
    let v = c.args.bitmap.now in
    let d_p = subst (λ (x : Place). IsIndex x v m) (sym c.self.view_is) d in
    c.take_pair.ensures.refused m told d_p

pub returns-clause-blamed : goal.returns-clause-blamed
returns-clause-blamed g c m told =
    subst (λ (x : Place). IfErr c.take_pair.result (IsTakingFault (IsPairPage x.kind c.args.key.now) x.origin m (g.E.Blocks.told c.take_pair.new.edits))) c.self.view_is (c.take_pair.ensures.blamed m told)
