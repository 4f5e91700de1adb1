use Rattle.std.proofs.Common.{◌∙◌, true, false, sym, ap, subst}
use Rattle.std.specs.FinMap.{get}
use Rattle.bfs_super.specs.Geometry.{geometry_of}
use Rattle.bfs_bitmap.specs.Runs.{Room}
use Rattle.bfs_tree.specs.Refusals.{is_inside}
use Rattle.bfs_tree.specs.Trees.{Tree, IsNode, is_dir}
use Rattle.bfs_look.specs.Ready.{IsReady, HasReady, IsKindOf}
use Rattle.bfs_look.proofs.Known.{dir_is}
use Rattle.bfs_rename.proofs.Renaming.{into_absent, into_leaf, into_bad, into_dir, over_kind}
use Rattle.bfs_rename.proofs.into.into_refusal.Goals as goal

pub returns-in-Err-clause-refused : goal.returns-in-Err-clause-refused
returns-in-Err-clause-refused g c m tree lists s n told ready same holds kind = c.in-Err.ensures.found m tree lists told ready

pub returns-in-None-clause-refused : goal.returns-in-None-clause-refused
returns-in-None-clause-refused g c m tree lists s n told ready same holds kind =
    let none = subst (IsKindOf tree c.args.to_dir) c.in-None.is (c.in-Ok.ensures.found m tree lists told ready) in
    sym (into_absent s c.args.child.id n c.args.to_dir c.args.to_name.now (ap (λ (t : Tree). get t.nodes c.args.to_dir) same ∙ none))

pub returns-then-not-is_dir-clause-refused : goal.returns-then-not-is_dir-clause-refused
returns-then-not-is_dir-clause-refused g c m tree lists s n told ready same holds kind =
    let t = subst (IsKindOf tree c.args.to_dir) c.in-Some.is (c.in-Ok.ensures.found m tree lists told ready) in
    let is = subst (λ x. IsNode x c.args.to_dir t.0) (sym same) t.1 in
    sym (into_leaf s c.args.child.id n c.args.to_dir c.args.to_name.now t.0 is (ap is_dir t.2 ∙ sym c.is_dir.ensures ∙ c.if-not-is_dir.true))

pub returns-then-is_bad_name-clause-refused : goal.returns-then-is_bad_name-clause-refused
returns-then-is_bad_name-clause-refused g c m tree lists s n told ready same holds kind =
    let t = subst (IsKindOf tree c.args.to_dir) c.in-Some.is (c.in-Ok.ensures.found m tree lists told ready) in
    let is = subst (λ x. IsNode x c.args.to_dir t.0) (sym same) t.1 in
    sym (into_bad s c.args.child.id n c.args.to_dir c.args.to_name.now t.0 is (ap is_dir t.2 ∙ sym c.is_dir.ensures ∙ c.if-not-is_dir.false) (sym c.is_bad_name.ensures ∙ c.if-is_bad_name.true))

pub returns-in-Err-is_inside-clause-refused : goal.returns-in-Err-is_inside-clause-refused
returns-in-Err-is_inside-clause-refused g c m tree lists s n told ready same holds kind =
    let t = subst (IsKindOf tree c.args.to_dir) c.in-Some.is (c.in-Ok.ensures.found m tree lists told ready) in
    c.in-Err-is_inside.ensures.inside c.args.bitmap.now m tree lists n t.0 (c.in-Ok.ensures.told ∙ told) ready kind t.1

pub returns-then-inside-clause-refused : goal.returns-then-inside-clause-refused
returns-then-inside-clause-refused g c m tree lists s n told ready same holds kind =
    let t = subst (IsKindOf tree c.args.to_dir) c.in-Some.is (c.in-Ok.ensures.found m tree lists told ready) in
    let is = subst (λ x. IsNode x c.args.to_dir t.0) (sym same) t.1 in
    let inside = c.in-Ok-is_inside.ensures.inside c.args.bitmap.now m tree lists n t.0 (c.in-Ok.ensures.told ∙ told) ready kind t.1 in
    sym (into_dir s c.args.child.id n c.args.to_dir c.args.to_name.now t.0 is false true (ap is_dir t.2 ∙ sym c.is_dir.ensures ∙ c.if-not-is_dir.false) (sym c.is_bad_name.ensures ∙ c.if-is_bad_name.false)
    (ap (λ (x : Tree). is_inside x c.args.child.id n c.args.to_dir) same ∙ sym inside ∙ c.if-inside.true))

pub over_refusal-requires-clause-ready : goal.over_refusal-requires-clause-ready
over_refusal-requires-clause-ready g c m told =
    subst (λ v. HasReady (geometry_of c.args.sup.now) v m) (sym c.in-Ok.ensures.bitmap) (c.requires.ready m (sym c.in-Ok.ensures.told ∙ sym c.in-Ok-is_inside.ensures.told ∙ told))

pub returns-in-Ok-over_refusal-clause-refused : goal.returns-in-Ok-over_refusal-clause-refused
returns-in-Ok-over_refusal-clause-refused g c m tree lists s n told ready same holds kind =
    let t = subst (IsKindOf tree c.args.to_dir) c.in-Some.is (c.in-Ok.ensures.found m tree lists told ready) in
    let is = subst (λ x. IsNode x c.args.to_dir t.0) (sym same) t.1 in
    let isdir = ap is_dir t.2 ∙ sym c.is_dir.ensures ∙ c.if-not-is_dir.false in
    let inside = c.in-Ok-is_inside.ensures.inside c.args.bitmap.now m tree lists n t.0 (c.in-Ok.ensures.told ∙ told) ready kind t.1 in
    c.in-Ok-over_refusal.ensures.refused m tree lists s t.0 (c.in-Ok-is_inside.ensures.told ∙ c.in-Ok.ensures.told ∙ told) (subst (λ (v : Room). IsReady (geometry_of c.args.sup.now) v m tree lists) (sym c.in-Ok.ensures.bitmap) ready) same holds t.1 (dir_is t.0.kind isdir)
    ∙ over_kind s c.args.child.id c.args.child.kind n.kind c.args.to_dir c.args.to_name.now kind
    ∙ sym (into_dir s c.args.child.id n c.args.to_dir c.args.to_name.now t.0 is false false isdir (sym c.is_bad_name.ensures ∙ c.if-is_bad_name.false)
    (ap (λ (x : Tree). is_inside x c.args.child.id n c.args.to_dir) same ∙ sym inside ∙ c.if-inside.false))

pub returns-in-Err-over_refusal-clause-refused : goal.returns-in-Err-over_refusal-clause-refused
returns-in-Err-over_refusal-clause-refused g c m tree lists s n told ready same holds kind =
    let t = subst (IsKindOf tree c.args.to_dir) c.in-Some.is (c.in-Ok.ensures.found m tree lists told ready) in
    let isdir = ap is_dir t.2 ∙ sym c.is_dir.ensures ∙ c.if-not-is_dir.false in
    c.in-Err-over_refusal.ensures.refused m tree lists s t.0 (c.in-Ok-is_inside.ensures.told ∙ c.in-Ok.ensures.told ∙ told) (subst (λ (v : Room). IsReady (geometry_of c.args.sup.now) v m tree lists) (sym c.in-Ok.ensures.bitmap) ready) same holds t.1 (dir_is t.0.kind isdir)
