use Rattle.std.proofs.Common.{◌≡◌, pos, None, refl, sym, subst}
use Rattle.std.specs.Prelude.{OnOk, IfErr}
use Rattle.bfs_base.specs.declared.kind.KeyKind.TheVariants.{Text}
use Rattle.bfs_pages.specs.Maps.{assoc, put}
use Rattle.bfs_stream.specs.Sizes.{Origin, sizes_of}
use Rattle.bfs_maps.specs.Mapped.{rows_of, HasHeld, IsMap}
use Rattle.bfs_maps.specs.NumberTrees.{IsTreeOf}
use Rattle.bfs_maps.specs.Refused.{IsPutFault}
use Rattle.bfs_maps.proofs.Over.{now_named, on_ok}
use Rattle.bfs_pages.specs.Answers.{IsOfKind}
use Rattle.bfs_maps.specs.Refused.{IsChangeFault}
use Rattle.bfs_dir.proofs.directory.Dir.put.Goals as goal

pub put_number-requires-clause-stream : goal.put_number-requires-clause-stream
put_number-requires-clause-stream g c m told = subst (λ (x : Origin). HasHeld x c.args.bitmap.now m) (sym c.self.view_is) (c.requires.stream m told)

pub returns-clause-put : goal.returns-clause-put
returns-clause-put g c m told d =
    let o = c.args.self.now in
    let v = c.args.bitmap.now in
    let p : Origin = record { id = c.self.inside.inode; sizes = sizes_of c.self.inside.sup } in
    let d_p = subst (λ (x : Origin). IsMap Text x v m) (sym c.self.view_is) d in
    on_ok _ _ c.put_number.result (c.put_number.ensures.put m told d_p)
    (now_named (λ (x : Origin). IsTreeOf Text (put Text (rows_of Text x m) c.args.name.now (pos c.args.id))) m o p v v c.put_number.new.bitmap c.put_number.new.bitmap (g.E.Blocks.told c.put_number.new.edits) (g.E.Blocks.told c.put_number.new.edits) (g.E.Blocks.changed c.args.edits.now) (g.E.Blocks.changed c.args.edits.now) (g.E.Blocks.changed c.put_number.new.edits) (g.E.Blocks.changed c.put_number.new.edits)
    c.self.view_is refl refl refl refl refl)

pub returns-clause-absent : goal.returns-clause-absent
returns-clause-absent g c m told d =
    let v = c.args.bitmap.now in
    let p : Origin = record { id = c.self.inside.inode; sizes = sizes_of c.self.inside.sup } in
    let d_p = subst (λ (x : Origin). IsMap Text x v m) (sym c.self.view_is) d in
    subst (λ (x : Origin). OnOk c.put_number.result (assoc Text (rows_of Text x m) c.args.name.now ≡ None)) c.self.view_is (c.put_number.ensures.absent m told d_p)

pub returns-clause-refused : goal.returns-clause-refused
returns-clause-refused g c m told d =
    let v = c.args.bitmap.now in
    let p : Origin = record { id = c.self.inside.inode; sizes = sizes_of c.self.inside.sup } in
    let d_p = subst (λ (x : Origin). IsMap Text x v m) (sym c.self.view_is) d in
    subst (λ (x : Origin). IfErr c.put_number.result (IsPutFault Text x v m (rows_of Text x m) c.args.name.now)) c.self.view_is (c.put_number.ensures.refused m told d_p)

pub returns-clause-blamed : goal.returns-clause-blamed
returns-clause-blamed g c m told =
    subst (λ (x : Origin). IfErr c.put_number.result (IsChangeFault (IsOfKind Text) x c.args.bitmap.now m (g.E.Blocks.told c.put_number.new.edits))) c.self.view_is (c.put_number.ensures.blamed m told)
