use Rattle.std.proofs.Common.{rules, ◌≡◌, ◌∙◌, ℕ, ℤ, List, [], None, refl, sym, ap, subst, w32, w64, to_z, of_z}
use Rattle.std.specs.FinMap.{empty}
use Rattle.std.specs.Prelude.{IfOk}
use Rattle.bfs_super.specs.Geometry.{geometry_of}
use Rattle.bfs_tree.specs.declared.call.Call.{Call}
use Rattle.bfs_tree.specs.declared.call.Call.TheVariants.{Make, SetMode, SetSize, Remove, Rename, AttrWrite, AttrRemove, IndexMake, IndexRemove, Hold}
use Rattle.bfs_tree.specs.declared.reply.Reply.TheVariants.{Done, Made}
use Rattle.bfs_tree.specs.declared.reply.Reply.{Reply}
use Rattle.bfs_tree.specs.Refusals.{own_refusal}
use Rattle.bfs_tree.specs.States.{State}
use Rattle.bfs_calls.specs.Done.{IsDoneSo}
use Rattle.bfs_calls.specs.Made.{IsMadeIn}
use Rattle.bfs_calls.proofs.Answering.{made_so}
use Rattle.bfs_answers.specs.Answered.{IsAnswered}
use Rattle.bfs_answers.proofs.Done.{done_is_answered}
use Rattle.bfs_answers.proofs.calls.CallsAnswers.answer.Goals as goal

pub make_node-requires-clause-fine : goal.make_node-requires-clause-fine
make_node-requires-clause-fine g c m tree lists s told ready same =
    let is : c.args.call.now ≡ Make c.in-Make.dir c.as_slice.result.now c.in-Make.kind c.in-Make.mode = c.in-Make.is ∙ ap (λ (n : List ℕ). Make c.in-Make.dir n c.in-Make.kind c.in-Make.mode) (sym c.as_slice.ensures) in
    subst (λ (x : Call). own_refusal x (record { tree = s.tree; holds = c.args.holds.now; known = s.known }) ≡ None) is (c.requires.fine m tree lists (record { tree = s.tree; holds = c.args.holds.now; known = s.known }) told ready same refl)

pub returns-in-Ok-clause-answered : goal.returns-in-Ok-clause-answered
returns-in-Ok-clause-answered g c m tree lists told ready =
    let s = geometry_of c.args.sup.now in
    let is : c.args.call.now ≡ Make c.in-Make.dir c.as_slice.result.now c.in-Make.kind c.in-Make.mode = c.in-Make.is ∙ ap (λ (n : List ℕ). Make c.in-Make.dir n c.in-Make.kind c.in-Make.mode) (sym c.as_slice.ensures) in
    let e : to_z w64 (of_z w64 c.args.stamp) ≡ c.args.stamp = search rules in
    let st : State = record { tree = tree; holds = []; known = empty } in
    let one : IsMadeIn s c.args.bitmap.now c.make_node.new.bitmap m tree st c.in-Make.dir c.as_slice.result.now c.in-Make.kind c.in-Make.mode c.args.stamp c.in-Ok.id (g.E.Blocks.told c.make_node.new.edits) (g.E.Blocks.changed c.args.edits.now) (g.E.Blocks.changed c.make_node.new.edits) =
    subst (λ (z : ℤ). IsMadeIn s c.args.bitmap.now c.make_node.new.bitmap m tree st c.in-Make.dir c.as_slice.result.now c.in-Make.kind c.in-Make.mode z c.in-Ok.id (g.E.Blocks.told c.make_node.new.edits) (g.E.Blocks.changed c.args.edits.now) (g.E.Blocks.changed c.make_node.new.edits)) e
    (c.in-Ok.ensures.made m tree lists st told ready refl) in
    let so =
    made_so s c.args.bitmap.now c.make_node.new.bitmap m tree c.in-Make.dir c.as_slice.result.now c.in-Make.kind c.in-Make.mode c.args.stamp c.in-Ok.id (g.E.Blocks.told c.make_node.new.edits) (g.E.Blocks.changed c.args.edits.now) (g.E.Blocks.changed c.make_node.new.edits)
    (λ other same. subst (λ (x : Call). own_refusal x (record { tree = other.tree; holds = c.args.holds.now; known = other.known }) ≡ None) is (c.requires.fine m tree lists (record { tree = other.tree; holds = c.args.holds.now; known = other.known }) told ready same refl)) one in
    subst (λ (x : Call). IsAnswered s c.args.bitmap.now c.make_node.new.bitmap m tree c.args.holds.now c.args.stamp x (Made c.in-Ok.id) (g.E.Blocks.told c.make_node.new.edits) (g.E.Blocks.changed c.args.edits.now) (g.E.Blocks.changed c.make_node.new.edits)) (sym is)
    (done_is_answered s c.args.bitmap.now c.make_node.new.bitmap m tree lists (g.E.Blocks.told c.make_node.new.edits) (g.E.Blocks.changed c.args.edits.now) (g.E.Blocks.changed c.make_node.new.edits) ready c.args.holds.now c.args.stamp (Make c.in-Make.dir c.as_slice.result.now c.in-Make.kind c.in-Make.mode) (Made c.in-Ok.id) so)

pub returns-in-Ok-set_mode-clause-answered : goal.returns-in-Ok-set_mode-clause-answered
returns-in-Ok-set_mode-clause-answered g c m tree lists told ready =
    let s = geometry_of c.args.sup.now in
    let user : to_z w32 (of_z w32 c.in-SetMode.uid) ≡ c.in-SetMode.uid = search rules in
    let owner : to_z w32 (of_z w32 c.in-SetMode.gid) ≡ c.in-SetMode.gid = search rules in
    let stamp : to_z w64 (of_z w64 c.args.stamp) ≡ c.args.stamp = search rules in
    let is : c.args.call.now ≡ SetMode c.in-SetMode.id c.in-SetMode.mode (to_z w32 (of_z w32 c.in-SetMode.uid)) (to_z w32 (of_z w32 c.in-SetMode.gid)) = c.in-SetMode.is ∙ (λ j. SetMode c.in-SetMode.id c.in-SetMode.mode (sym user j) (sym owner j)) in
    let so : IsDoneSo s c.args.bitmap.now c.args.bitmap.now m tree c.args.stamp c.args.call.now Done (g.E.Blocks.told c.set_mode.new.edits) (g.E.Blocks.changed c.args.edits.now) (g.E.Blocks.changed c.set_mode.new.edits) =
    subst (λ (x : Call). IsDoneSo s c.args.bitmap.now c.args.bitmap.now m tree c.args.stamp x Done (g.E.Blocks.told c.set_mode.new.edits) (g.E.Blocks.changed c.args.edits.now) (g.E.Blocks.changed c.set_mode.new.edits)) (sym is)
    (subst (λ (z : ℤ). IsDoneSo s c.args.bitmap.now c.args.bitmap.now m tree z (SetMode c.in-SetMode.id c.in-SetMode.mode (to_z w32 (of_z w32 c.in-SetMode.uid)) (to_z w32 (of_z w32 c.in-SetMode.gid))) Done (g.E.Blocks.told c.set_mode.new.edits) (g.E.Blocks.changed c.args.edits.now) (g.E.Blocks.changed c.set_mode.new.edits)) stamp
    (c.in-Ok-set_mode.ensures.done c.args.bitmap.now m tree lists told ready (λ other same. subst (λ (x : Call). own_refusal x (record { tree = other.tree; holds = c.args.holds.now; known = other.known }) ≡ None) is (c.requires.fine m tree lists (record { tree = other.tree; holds = c.args.holds.now; known = other.known }) told ready same refl)))) in
    done_is_answered s c.args.bitmap.now c.args.bitmap.now m tree lists (g.E.Blocks.told c.set_mode.new.edits) (g.E.Blocks.changed c.args.edits.now) (g.E.Blocks.changed c.set_mode.new.edits) ready c.args.holds.now c.args.stamp c.args.call.now Done so

pub give_size-requires-clause-fine : goal.give_size-requires-clause-fine
give_size-requires-clause-fine g c m tree lists s told ready same held =
    subst (λ (x : Call). own_refusal x s ≡ None) c.in-SetSize.is (c.requires.fine m tree lists s told ready same held)

pub returns-in-SetSize-clause-answered : goal.returns-in-SetSize-clause-answered
returns-in-SetSize-clause-answered g c m tree lists told ready =
    let v = geometry_of c.args.sup.now in
    let n = c.give_size.new in
    let e : to_z w64 (of_z w64 c.args.stamp) ≡ c.args.stamp = search rules in
    let so : ℤ → Call → Reply → Type 0 = λ z x reply. IsAnswered v c.args.bitmap.now n.bitmap m tree c.args.holds.now z x reply (g.E.Blocks.told n.edits) (g.E.Blocks.changed c.args.edits.now) (g.E.Blocks.changed n.edits) in
    subst (λ (x : Call). IfOk c.give_size.result (so c.args.stamp x)) (sym c.in-SetSize.is)
    (subst (λ (z : ℤ). IfOk c.give_size.result (so z (SetSize c.in-SetSize.id c.in-SetSize.size))) e (c.give_size.ensures.answered m tree lists told ready))

pub hold_file-requires-clause-fine : goal.hold_file-requires-clause-fine
hold_file-requires-clause-fine g c m tree lists s told ready same held =
    subst (λ (x : Call). own_refusal x s ≡ None) c.in-Hold.is (c.requires.fine m tree lists s told ready same held)

pub returns-in-Hold-clause-answered : goal.returns-in-Hold-clause-answered
returns-in-Hold-clause-answered g c m tree lists told ready =
    let v = geometry_of c.args.sup.now in
    let n = c.hold_file.new in
    let e : to_z w64 (of_z w64 c.args.stamp) ≡ c.args.stamp = search rules in
    let so : ℤ → Call → Reply → Type 0 = λ z x reply. IsAnswered v c.args.bitmap.now n.bitmap m tree c.args.holds.now z x reply (g.E.Blocks.told n.edits) (g.E.Blocks.changed c.args.edits.now) (g.E.Blocks.changed n.edits) in
    subst (λ (x : Call). IfOk c.hold_file.result (so c.args.stamp x)) (sym c.in-Hold.is)
    (subst (λ (z : ℤ). IfOk c.hold_file.result (so z (Hold c.in-Hold.id c.in-Hold.at c.in-Hold.length c.in-Hold.write))) e (c.hold_file.ensures.answered m tree lists told ready))

pub remove-requires-clause-fine : goal.remove-requires-clause-fine
remove-requires-clause-fine g c m tree lists s told ready same held =
    let is : c.args.call.now ≡ Remove c.in-Remove.dir c.as_slice-name.result.now = c.in-Remove.is ∙ ap (λ (n : List ℕ). Remove c.in-Remove.dir n) (sym c.as_slice-name.ensures) in
    subst (λ (x : Call). own_refusal x s ≡ None) is (c.requires.fine m tree lists s told ready same held)

pub drop_index-requires-clause-fine : goal.drop_index-requires-clause-fine
drop_index-requires-clause-fine g c m tree lists s told ready same =
    let is : c.args.call.now ≡ IndexRemove c.as_slice-in-IndexRemove.result.now = c.in-IndexRemove.is ∙ ap (λ (n : List ℕ). IndexRemove n) (sym c.as_slice-in-IndexRemove.ensures) in
    subst (λ (x : Call). own_refusal x (record { tree = s.tree; holds = c.args.holds.now; known = s.known }) ≡ None) is (c.requires.fine m tree lists (record { tree = s.tree; holds = c.args.holds.now; known = s.known }) told ready same refl)

pub returns-in-Remove-clause-answered : goal.returns-in-Remove-clause-answered
returns-in-Remove-clause-answered g c m tree lists told ready =
    let v = geometry_of c.args.sup.now in
    let n = c.remove.new in
    let is : c.args.call.now ≡ Remove c.in-Remove.dir c.as_slice-name.result.now = c.in-Remove.is ∙ ap (λ (l : List ℕ). Remove c.in-Remove.dir l) (sym c.as_slice-name.ensures) in
    let e : to_z w64 (of_z w64 c.args.stamp) ≡ c.args.stamp = search rules in
    let so : ℤ → Call → Reply → Type 0 = λ z x reply. IsAnswered v c.args.bitmap.now n.bitmap m tree c.args.holds.now z x reply (g.E.Blocks.told n.edits) (g.E.Blocks.changed c.args.edits.now) (g.E.Blocks.changed n.edits) in
    subst (λ (x : Call). IfOk c.remove.result (so c.args.stamp x)) (sym is)
    (subst (λ (z : ℤ). IfOk c.remove.result (so z (Remove c.in-Remove.dir c.as_slice-name.result.now))) e (c.remove.ensures.answered m tree lists told ready))

pub returns-in-IndexRemove-clause-answered : goal.returns-in-IndexRemove-clause-answered
returns-in-IndexRemove-clause-answered g c m tree lists told ready =
    let v = geometry_of c.args.sup.now in
    let n = c.drop_index.new in
    let is : c.args.call.now ≡ IndexRemove c.as_slice-in-IndexRemove.result.now = c.in-IndexRemove.is ∙ ap (λ (l : List ℕ). IndexRemove l) (sym c.as_slice-in-IndexRemove.ensures) in
    let so : Call → Reply → Type 0 = λ x reply. IsAnswered v c.args.bitmap.now n.bitmap m tree c.args.holds.now c.args.stamp x reply (g.E.Blocks.told n.edits) (g.E.Blocks.changed c.args.edits.now) (g.E.Blocks.changed n.edits) in
    subst (λ (x : Call). IfOk c.drop_index.result (so x)) (sym is)
    (c.drop_index.ensures.answered m tree lists c.args.holds.now c.args.stamp told ready)

pub drop_attr-requires-clause-fine : goal.drop_attr-requires-clause-fine
drop_attr-requires-clause-fine g c m tree lists s told ready same =
    let is : c.args.call.now ≡ AttrRemove c.in-AttrRemove.id c.as_slice-in-AttrRemove.result.now = c.in-AttrRemove.is ∙ ap (λ (n : List ℕ). AttrRemove c.in-AttrRemove.id n) (sym c.as_slice-in-AttrRemove.ensures) in
    subst (λ (x : Call). own_refusal x (record { tree = s.tree; holds = c.args.holds.now; known = s.known }) ≡ None) is (c.requires.fine m tree lists (record { tree = s.tree; holds = c.args.holds.now; known = s.known }) told ready same refl)

pub returns-in-AttrRemove-clause-answered : goal.returns-in-AttrRemove-clause-answered
returns-in-AttrRemove-clause-answered g c m tree lists told ready =
    let v = geometry_of c.args.sup.now in
    let n = c.drop_attr.new in
    let is : c.args.call.now ≡ AttrRemove c.in-AttrRemove.id c.as_slice-in-AttrRemove.result.now = c.in-AttrRemove.is ∙ ap (λ (l : List ℕ). AttrRemove c.in-AttrRemove.id l) (sym c.as_slice-in-AttrRemove.ensures) in
    let e : to_z w64 (of_z w64 c.args.stamp) ≡ c.args.stamp = search rules in
    let so : ℤ → Call → Reply → Type 0 = λ z x reply. IsAnswered v c.args.bitmap.now n.bitmap m tree c.args.holds.now z x reply (g.E.Blocks.told n.edits) (g.E.Blocks.changed c.args.edits.now) (g.E.Blocks.changed n.edits) in
    subst (λ (x : Call). IfOk c.drop_attr.result (so c.args.stamp x)) (sym is)
    (subst (λ (z : ℤ). IfOk c.drop_attr.result (so z (AttrRemove c.in-AttrRemove.id c.as_slice-in-AttrRemove.result.now))) e (c.drop_attr.ensures.answered m tree lists c.args.holds.now told ready))

pub put_attr-requires-clause-fine : goal.put_attr-requires-clause-fine
put_attr-requires-clause-fine g c m tree lists s told ready same =
    let is : c.args.call.now ≡ AttrWrite c.in-AttrWrite.id c.as_slice-in-AttrWrite.result.now c.in-AttrWrite.kind c.as_slice-in-AttrWrite-2.result.now = search rules in
    subst (λ (x : Call). own_refusal x (record { tree = s.tree; holds = c.args.holds.now; known = s.known }) ≡ None) is (c.requires.fine m tree lists (record { tree = s.tree; holds = c.args.holds.now; known = s.known }) told ready same refl)

pub returns-in-AttrWrite-clause-answered : goal.returns-in-AttrWrite-clause-answered
returns-in-AttrWrite-clause-answered g c m tree lists told ready =
    let v = geometry_of c.args.sup.now in
    let n = c.put_attr.new in
    let here : Call = AttrWrite c.in-AttrWrite.id c.as_slice-in-AttrWrite.result.now c.in-AttrWrite.kind c.as_slice-in-AttrWrite-2.result.now in
    let is : c.args.call.now ≡ here = search rules in
    let e : to_z w64 (of_z w64 c.args.stamp) ≡ c.args.stamp = search rules in
    let so : ℤ → Call → Reply → Type 0 = λ z x reply. IsAnswered v c.args.bitmap.now n.bitmap m tree c.args.holds.now z x reply (g.E.Blocks.told n.edits) (g.E.Blocks.changed c.args.edits.now) (g.E.Blocks.changed n.edits) in
    subst (λ (x : Call). IfOk c.put_attr.result (so c.args.stamp x)) (sym is)
    (subst (λ (z : ℤ). IfOk c.put_attr.result (so z here)) e (c.put_attr.ensures.answered m tree lists c.args.holds.now told ready))

pub build_index-requires-clause-fine : goal.build_index-requires-clause-fine
build_index-requires-clause-fine g c m tree lists s told ready same =
    let is : c.args.call.now ≡ IndexMake c.as_slice-name-in-IndexMake.result.now c.in-IndexMake.kind = c.in-IndexMake.is ∙ ap (λ (n : List ℕ). IndexMake n c.in-IndexMake.kind) (sym c.as_slice-name-in-IndexMake.ensures) in
    subst (λ (x : Call). own_refusal x (record { tree = s.tree; holds = c.args.holds.now; known = s.known }) ≡ None) is (c.requires.fine m tree lists (record { tree = s.tree; holds = c.args.holds.now; known = s.known }) told ready same refl)

pub returns-in-IndexMake-clause-answered : goal.returns-in-IndexMake-clause-answered
returns-in-IndexMake-clause-answered g c m tree lists told ready =
    let v = geometry_of c.args.sup.now in
    let n = c.build_index.new in
    let is : c.args.call.now ≡ IndexMake c.as_slice-name-in-IndexMake.result.now c.in-IndexMake.kind = c.in-IndexMake.is ∙ ap (λ (l : List ℕ). IndexMake l c.in-IndexMake.kind) (sym c.as_slice-name-in-IndexMake.ensures) in
    let e : to_z w64 (of_z w64 c.args.stamp) ≡ c.args.stamp = search rules in
    let so : ℤ → Call → Reply → Type 0 = λ z x reply. IsAnswered v c.args.bitmap.now n.bitmap m tree c.args.holds.now z x reply (g.E.Blocks.told n.edits) (g.E.Blocks.changed c.args.edits.now) (g.E.Blocks.changed n.edits) in
    subst (λ (x : Call). IfOk c.build_index.result (so c.args.stamp x)) (sym is)
    (subst (λ (z : ℤ). IfOk c.build_index.result (so z (IndexMake c.as_slice-name-in-IndexMake.result.now c.in-IndexMake.kind))) e (c.build_index.ensures.answered m tree lists c.args.holds.now told ready))

pub rename-requires-clause-fine : goal.rename-requires-clause-fine
rename-requires-clause-fine g c m tree lists s told ready same held =
    let is : c.args.call.now ≡ Rename c.in-Rename.dir c.as_slice-in-Rename.result.now c.in-Rename.to_dir c.as_slice-in-Rename-2.result.now = search rules in
    subst (λ (x : Call). own_refusal x s ≡ None) is (c.requires.fine m tree lists s told ready same held)

pub returns-in-Rename-clause-answered : goal.returns-in-Rename-clause-answered
returns-in-Rename-clause-answered g c m tree lists told ready =
    let v = geometry_of c.args.sup.now in
    let n = c.rename.new in
    let here : Call = Rename c.in-Rename.dir c.as_slice-in-Rename.result.now c.in-Rename.to_dir c.as_slice-in-Rename-2.result.now in
    let is : c.args.call.now ≡ here = search rules in
    let e : to_z w64 (of_z w64 c.args.stamp) ≡ c.args.stamp = search rules in
    let so : ℤ → Call → Reply → Type 0 = λ z x reply. IsAnswered v c.args.bitmap.now n.bitmap m tree c.args.holds.now z x reply (g.E.Blocks.told n.edits) (g.E.Blocks.changed c.args.edits.now) (g.E.Blocks.changed n.edits) in
    subst (λ (x : Call). IfOk c.rename.result (so c.args.stamp x)) (sym is)
    (subst (λ (z : ℤ). IfOk c.rename.result (so z here)) e (c.rename.ensures.answered m tree lists told ready))
