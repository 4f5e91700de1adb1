use Rattle.std.proofs.Common.{◌∷◌, ◌∙◌, Bool, true, List, sym, ap, subst}
use Rattle.bfs_super.specs.Geometry.{geometry_of}
use Rattle.bfs_tree.specs.Refusals.{first, held, is_full, is_one_dir}
use Rattle.bfs_tree.specs.States.{conflict}
use Rattle.bfs_tree.specs.Trees.{IsNode, is_dir}
use Rattle.bfs_tree.specs.declared.reply.Reply.TheVariants as replies
use Rattle.bfs_tree.specs.declared.state.Hold.{Hold}
use Rattle.bfs_tree.proofs.Members.{child-there}
use Rattle.bfs_look.specs.Ready.{IsReady, HasReady}
use Rattle.bfs_remove_node.proofs.Refusing.{looked_some}
use Rattle.bfs_remove_node.proofs.Looking.{no_child}
use Rattle.bfs_rename.proofs.Renaming.{over_none, over_itself, over_other}
use Rattle.bfs_rename.proofs.over.over_refusal.Goals as goal

pub returns-in-Err-clause-refused : goal.returns-in-Err-clause-refused
returns-in-Err-clause-refused g c m tree lists s t told ready same holds is kind = c.in-Err.ensures.reads m tree lists s told ready same

pub returns-in-None-clause-refused : goal.returns-in-None-clause-refused
returns-in-None-clause-refused g c m tree lists s t told ready same holds is kind =
    sym (over_none s c.args.child.id c.args.child.kind c.args.to_dir c.args.to_name.now
    (no_child s c.args.to_dir c.args.to_name.now c.in-Ok.found (c.in-Ok.ensures.reads m tree lists s told ready same) (sym c.child_in.ensures ∙ c.in-None.is) t (subst (λ x. IsNode x c.args.to_dir t) (sym same) is) (ap is_dir kind)))

pub returns-then-other-child-clause-refused : goal.returns-then-other-child-clause-refused
returns-then-other-child-clause-refused g c m tree lists s t told ready same holds is kind =
    let f = looked_some s c.args.to_dir c.args.to_name.now c.in-Ok.found (c.in-Ok.ensures.reads m tree lists s told ready same) c.in-Some.other (sym c.child_in.ensures ∙ c.in-Some.is) in
    sym (over_itself s c.args.child.id c.args.child.kind c.args.to_dir c.args.to_name.now c.in-Some.other.id f.node f.child_is c.if-other-child.true)

pub returns-then-is_one_dir-clause-refused : goal.returns-then-is_one_dir-clause-refused
returns-then-is_one_dir-clause-refused g c m tree lists s t told ready same holds is kind =
    let f = looked_some s c.args.to_dir c.args.to_name.now c.in-Ok.found (c.in-Ok.ensures.reads m tree lists s told ready same) c.in-Some.other (sym c.child_in.ensures ∙ c.in-Some.is) in
    let one = ap (is_one_dir c.args.child.kind) (sym f.kind_is) ∙ sym c.is_one_dir.ensures ∙ c.if-is_one_dir.true in
    sym (over_other s c.args.child.id c.args.child.kind c.args.to_dir c.args.to_name.now c.in-Some.other.id f.node f.child_is c.if-other-child.false
    ∙ ap (λ (b : Bool). first ((b, replies.Exists) ∷ (is_full s.tree c.in-Some.other.id f.node, replies.NotEmpty) ∷ held (conflict s.holds c.in-Some.other.id true))) one)

pub is_full-requires-clause-ready : goal.is_full-requires-clause-ready
is_full-requires-clause-ready g c m told =
    subst (λ v. HasReady (geometry_of c.args.sup.now) v m) (sym c.in-Ok.ensures.bitmap) (c.requires.ready m (sym c.in-Ok.ensures.told ∙ told))

pub returns-in-Err-is_full-clause-refused : goal.returns-in-Err-is_full-clause-refused
returns-in-Err-is_full-clause-refused g c m tree lists s t told ready same holds is kind =
    let f = looked_some s c.args.to_dir c.args.to_name.now c.in-Ok.found (c.in-Ok.ensures.reads m tree lists s told ready same) c.in-Some.other (sym c.child_in.ensures ∙ c.in-Some.is) in
    let id = c.in-Some.other.id in
    let there = subst (λ x. IsNode x id f.node) same (child-there s.tree c.args.to_dir c.args.to_name.now (id, f.node) f.child_is).0 in
    c.in-Err-is_full.ensures.found m tree lists f.node (c.in-Ok.ensures.told ∙ told) (subst (λ v. IsReady (geometry_of c.args.sup.now) v m tree lists) (sym c.in-Ok.ensures.bitmap) ready) there f.kind_is

pub returns-then-full-clause-refused : goal.returns-then-full-clause-refused
returns-then-full-clause-refused g c m tree lists s t told ready same holds is kind =
    let f = looked_some s c.args.to_dir c.args.to_name.now c.in-Ok.found (c.in-Ok.ensures.reads m tree lists s told ready same) c.in-Some.other (sym c.child_in.ensures ∙ c.in-Some.is) in
    let id = c.in-Some.other.id in
    let there = subst (λ x. IsNode x id f.node) same (child-there s.tree c.args.to_dir c.args.to_name.now (id, f.node) f.child_is).0 in
    let full = c.in-Ok-is_full.ensures.found m tree lists f.node (c.in-Ok.ensures.told ∙ told) (subst (λ v. IsReady (geometry_of c.args.sup.now) v m tree lists) (sym c.in-Ok.ensures.bitmap) ready) there f.kind_is in
    let one = ap (is_one_dir c.args.child.kind) (sym f.kind_is) ∙ sym c.is_one_dir.ensures ∙ c.if-is_one_dir.false in
    sym (over_other s c.args.child.id c.args.child.kind c.args.to_dir c.args.to_name.now id f.node f.child_is c.if-other-child.false
    ∙ ap (λ (b : Bool). first ((b, replies.Exists) ∷ (is_full s.tree id f.node, replies.NotEmpty) ∷ held (conflict s.holds id true))) one
    ∙ ap (λ (b : Bool). first ((b, replies.NotEmpty) ∷ held (conflict s.holds id true))) (ap (λ x. is_full x id f.node) same ∙ sym full ∙ c.if-full.true))

pub returns-clause-refused : goal.returns-clause-refused
returns-clause-refused g c m tree lists s t told ready same holds is kind =
    let f = looked_some s c.args.to_dir c.args.to_name.now c.in-Ok.found (c.in-Ok.ensures.reads m tree lists s told ready same) c.in-Some.other (sym c.child_in.ensures ∙ c.in-Some.is) in
    let id = c.in-Some.other.id in
    let there = subst (λ x. IsNode x id f.node) same (child-there s.tree c.args.to_dir c.args.to_name.now (id, f.node) f.child_is).0 in
    let full = c.in-Ok-is_full.ensures.found m tree lists f.node (c.in-Ok.ensures.told ∙ told) (subst (λ v. IsReady (geometry_of c.args.sup.now) v m tree lists) (sym c.in-Ok.ensures.bitmap) ready) there f.kind_is in
    let one = ap (is_one_dir c.args.child.kind) (sym f.kind_is) ∙ sym c.is_one_dir.ensures ∙ c.if-is_one_dir.false in
    c.held_by.ensures.reply ∙ ap (λ (hs : List Hold). first (held (conflict hs id true))) (sym holds)
    ∙ sym (over_other s c.args.child.id c.args.child.kind c.args.to_dir c.args.to_name.now id f.node f.child_is c.if-other-child.false
    ∙ ap (λ (b : Bool). first ((b, replies.Exists) ∷ (is_full s.tree id f.node, replies.NotEmpty) ∷ held (conflict s.holds id true))) one
    ∙ ap (λ (b : Bool). first ((b, replies.NotEmpty) ∷ held (conflict s.holds id true))) (ap (λ x. is_full x id f.node) same ∙ sym full ∙ c.if-full.false))
