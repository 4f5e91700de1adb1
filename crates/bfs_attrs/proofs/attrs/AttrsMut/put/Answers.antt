use Rattle.std.proofs.Common.{sym, subst, length, max}
use Rattle.std.specs.Prelude.{OnOk, IfErr}
use Rattle.bfs_super.specs.Conditions.{ceil}
use Rattle.bfs_stream.specs.Grown.{IsOfVolume}
use Rattle.bfs_sound.specs.Volumes.{sizes}
use Rattle.bfs_attr.specs.Bearers.{Bearer}
use Rattle.bfs_attr.specs.Changed.{Holds, HasPut}
use Rattle.bfs_attrs.specs.Replaced.{IsNotPut}
use Rattle.bfs_attrs.specs.Stored.{HasAddCause}
use Rattle.bfs_attrs.proofs.attrs.AttrsMut.put.Goals as goal

pub put-requires-clause-volume : goal.put-requires-clause-volume
put-requires-clause-volume g c = subst (λ (x : Bearer). IsOfVolume (sizes x.geometry) c.args.bitmap.now) (sym c.self.view_is) c.requires.volume

pub put-requires-clause-holds : goal.put-requires-clause-holds
put-requires-clause-holds g c m told = subst (λ (x : Bearer). Holds x c.args.bitmap.now m) (sym c.self.view_is) (c.requires.holds m told)

pub returns-clause-put : goal.returns-clause-put
returns-clause-put g c m told =
    subst
    (λ (x : Bearer). OnOk c.put.result (HasPut x c.args.bitmap.now c.put.new.bitmap m c.args.name.now (record { code = c.args.kind; bytes = c.args.bytes.now }) (g.E.Blocks.told c.put.new.edits) (g.E.Blocks.changed c.args.edits.now) (g.E.Blocks.changed c.put.new.edits)))
    c.self.view_is (c.put.ensures.put m told)

pub returns-clause-faults : goal.returns-clause-faults
returns-clause-faults g c m told =
    subst (λ (x : Bearer). IfErr c.put.result (IsNotPut x c.args.bitmap.now m c.args.name.now (record { code = c.args.kind; bytes = c.args.bytes.now }) (ceil (length c.args.bytes.now) x.geometry.block_size))) c.self.view_is (c.put.ensures.faults m told)

pub returns-clause-cause : goal.returns-clause-cause
returns-clause-cause g c =
    subst (λ (x : Bearer). IfErr c.put.result (HasAddCause (max 1 (max (ceil 2048 x.geometry.block_size) (ceil (length c.args.bytes.now) x.geometry.block_size))) (g.E.Blocks.counts c.args.edits.now) (g.E.Blocks.counts c.put.new.edits))) c.self.view_is
    c.put.ensures.cause
