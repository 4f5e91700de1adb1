use Rattle.std.proofs.Common.{◌≡◌, pos, Some, refl, sym, subst}
use Rattle.std.specs.Prelude.{IfOk, IfErr}
use Rattle.bfs_base.specs.declared.kind.KeyKind.TheVariants.{Text}
use Rattle.bfs_pages.specs.Maps.{assoc, without}
use Rattle.bfs_stream.specs.Sizes.{Origin, sizes_of}
use Rattle.bfs_maps.specs.Mapped.{rows_of, HasHeld, IsMap}
use Rattle.bfs_maps.specs.NumberTrees.{IsTreeOf}
use Rattle.bfs_maps.specs.Refused.{IsTakeFault}
use Rattle.bfs_maps.proofs.Over.{now_named, on_ok}
use Rattle.bfs_maps.specs.Refused.{IsTakingFault, IsNumberPage}
use Rattle.bfs_dir.proofs.directory.Dir.take.Goals as goal

pub take_number-requires-clause-stream : goal.take_number-requires-clause-stream
take_number-requires-clause-stream g c m told = subst (λ (x : Origin). HasHeld x c.args.bitmap.now m) (sym c.self.view_is) (c.requires.stream m told)

pub returns-clause-taken : goal.returns-clause-taken
returns-clause-taken g c m told d =
    let o = c.args.self.now in
    let v = c.args.bitmap.now in
    let p : Origin = record { id = c.self.inside.inode; sizes = sizes_of c.self.inside.sup } in
    let d_p = subst (λ (x : Origin). IsMap Text x v m) (sym c.self.view_is) d in
    on_ok _ _ c.take_number.result (c.take_number.ensures.taken m told d_p)
    (now_named (λ (x : Origin). IsTreeOf Text (without Text (rows_of Text x m) c.args.name.now)) m o p v v c.take_number.new.bitmap c.take_number.new.bitmap (g.E.Blocks.told c.take_number.new.edits) (g.E.Blocks.told c.take_number.new.edits) (g.E.Blocks.changed c.args.edits.now) (g.E.Blocks.changed c.args.edits.now) (g.E.Blocks.changed c.take_number.new.edits) (g.E.Blocks.changed c.take_number.new.edits)
    c.self.view_is refl refl refl refl refl)

pub returns-clause-id : goal.returns-clause-id
returns-clause-id g c m told d =
    let v = c.args.bitmap.now in
    let p : Origin = record { id = c.self.inside.inode; sizes = sizes_of c.self.inside.sup } in
    let d_p = subst (λ (x : Origin). IsMap Text x v m) (sym c.self.view_is) d in
    subst (λ (x : Origin). IfOk c.take_number.result (λ id. assoc Text (rows_of Text x m) c.args.name.now ≡ Some (pos id))) c.self.view_is (c.take_number.ensures.number m told d_p)

pub returns-clause-refused : goal.returns-clause-refused
returns-clause-refused g c m told d =
    let v = c.args.bitmap.now in
    let p : Origin = record { id = c.self.inside.inode; sizes = sizes_of c.self.inside.sup } in
    let d_p = subst (λ (x : Origin). IsMap Text x v m) (sym c.self.view_is) d in
    subst (λ (x : Origin). IfErr c.take_number.result (IsTakeFault Text (rows_of Text x m) c.args.name.now)) c.self.view_is (c.take_number.ensures.refused m told d_p)

pub returns-clause-blamed : goal.returns-clause-blamed
returns-clause-blamed g c m told =
    subst (λ (x : Origin). IfErr c.take_number.result (IsTakingFault (IsNumberPage Text) x m (g.E.Blocks.told c.take_number.new.edits))) c.self.view_is (c.take_number.ensures.blamed m told)
