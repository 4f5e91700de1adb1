use Rattle.std.proofs.Common.{sym, subst}
use Rattle.std.specs.Prelude.{OnOk, IfErr}
use Rattle.bfs_stream.specs.Grown.{IsOfVolume}
use Rattle.bfs_sound.specs.Volumes.{sizes}
use Rattle.bfs_attr.specs.Bearers.{Bearer, volume_at}
use Rattle.bfs_attr.specs.Changed.{Holds, HasTaken}
use Rattle.bfs_attrs.specs.Removed.{IsNotRemoved, IsUntouched}
use Rattle.bfs_attrs.proofs.attrs.AttrsMut.take.Goals as goal

pub take-requires-clause-volume : goal.take-requires-clause-volume
take-requires-clause-volume g c = subst (λ (x : Bearer). IsOfVolume (sizes x.geometry) c.args.bitmap.now) (sym c.self.view_is) c.requires.volume

pub take-requires-clause-holds : goal.take-requires-clause-holds
take-requires-clause-holds g c m told = subst (λ (x : Bearer). Holds x c.args.bitmap.now m) (sym c.self.view_is) (c.requires.holds m told)

pub returns-clause-taken : goal.returns-clause-taken
returns-clause-taken g c m told =
    subst (λ (x : Bearer). OnOk c.take.result (HasTaken x c.args.bitmap.now c.take.new.bitmap m c.args.name.now (g.E.Blocks.told c.take.new.edits) (g.E.Blocks.changed c.args.edits.now) (g.E.Blocks.changed c.take.new.edits))) c.self.view_is
    (c.take.ensures.taken m told)

pub returns-clause-faults : goal.returns-clause-faults
returns-clause-faults g c m told = subst (λ (x : Bearer). IfErr c.take.result (IsNotRemoved (volume_at x.geometry m) x.id c.args.name.now)) c.self.view_is (c.take.ensures.faults m told)

pub returns-clause-absent : goal.returns-clause-absent
returns-clause-absent g c m told =
    subst (λ (x : Bearer). IfErr c.take.result (IsUntouched x c.args.bitmap.now c.take.new.bitmap m (g.E.Blocks.told c.take.new.edits) (g.E.Blocks.changed c.args.edits.now) (g.E.Blocks.changed c.take.new.edits))) c.self.view_is
    (c.take.ensures.absent m told)
