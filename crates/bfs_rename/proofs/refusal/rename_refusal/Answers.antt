use Rattle.std.proofs.Common.{◌≤◌, ◌∙◌, ℕ, Some, sym, ap, subst}
use Rattle.bfs_super.specs.Geometry.{geometry_of}
use Rattle.bfs_tree.specs.Trees.{IsNode, is_dir}
use Rattle.bfs_look.specs.Ready.{IsReady, HasReady}
use Rattle.bfs_remove_node.proofs.Refusing.{looked_some}
use Rattle.bfs_remove_node.proofs.Sought.{not_beyond}
use Rattle.bfs_remove_node.proofs.Looking.{looked_none}
use Rattle.bfs_rename.proofs.Renaming.{here, rest}
use Rattle.bfs_rename.proofs.refusal.rename_refusal.Goals as goal

pub returns-in-Err-clause-refused : goal.returns-in-Err-clause-refused
returns-in-Err-clause-refused g c m tree lists s told ready same holds = c.in-Err.ensures.reads m tree lists s told ready same

pub returns-in-None-clause-refused : goal.returns-in-None-clause-refused
returns-in-None-clause-refused g c m tree lists s told ready same holds =
    ap Some c.refusal_by.ensures.reply
    ∙ sym (looked_none s c.args.dir c.args.name.now c.in-Ok.found (c.in-Ok.ensures.reads m tree lists s told ready same) (sym c.child_in.ensures ∙ c.in-None.is) (rest s c.args.dir c.args.name.now c.args.to_dir c.args.to_name.now))

pub returns-then-dir-blocks_in-clause-refused : goal.returns-then-dir-blocks_in-clause-refused
returns-then-dir-blocks_in-clause-refused g c m tree lists s told ready same holds =
    let f = looked_some s c.args.dir c.args.name.now c.in-Ok.found (c.in-Ok.ensures.reads m tree lists s told ready same) c.in-Some.child (sym c.child_in.ensures ∙ c.in-Some.is) in
    absurd (not_beyond c.args.sup.now c.args.bitmap.now m tree lists ready c.args.dir f.d (subst (λ t. IsNode t c.args.dir f.d) same f.there)
    (subst (λ (n : ℕ). n ≤ c.args.dir) c.blocks_in.ensures c.if-dir-blocks_in.true))

pub into_refusal-requires-clause-ready : goal.into_refusal-requires-clause-ready
into_refusal-requires-clause-ready g c m told =
    subst (λ v. HasReady (geometry_of c.args.sup.now) v m) (sym c.in-Ok.ensures.bitmap) (c.requires.ready m (sym c.in-Ok.ensures.told ∙ told))

pub returns-in-Ok-into_refusal-clause-refused : goal.returns-in-Ok-into_refusal-clause-refused
returns-in-Ok-into_refusal-clause-refused g c m tree lists s told ready same holds =
    let f = looked_some s c.args.dir c.args.name.now c.in-Ok.found (c.in-Ok.ensures.reads m tree lists s told ready same) c.in-Some.child (sym c.child_in.ensures ∙ c.in-Some.is) in
    c.in-Ok-into_refusal.ensures.refused m tree lists s f.node (c.in-Ok.ensures.told ∙ told) (subst (λ v. IsReady (geometry_of c.args.sup.now) v m tree lists) (sym c.in-Ok.ensures.bitmap) ready) same holds f.kind_is
    ∙ sym (here s c.args.dir c.args.name.now c.args.to_dir c.args.to_name.now f.d f.there (ap is_dir f.dir_kind) c.in-Some.child.id f.node f.child_is)

pub returns-clause-refused : goal.returns-clause-refused
returns-clause-refused g c m tree lists s told ready same holds =
    let f = looked_some s c.args.dir c.args.name.now c.in-Ok.found (c.in-Ok.ensures.reads m tree lists s told ready same) c.in-Some.child (sym c.child_in.ensures ∙ c.in-Some.is) in
    c.in-Err-into_refusal.ensures.refused m tree lists s f.node (c.in-Ok.ensures.told ∙ told) (subst (λ v. IsReady (geometry_of c.args.sup.now) v m tree lists) (sym c.in-Ok.ensures.bitmap) ready) same holds f.kind_is
