use Rattle.std.proofs.Common.{◌≤◌, ◌∙◌, ℕ, List, ◌∷◌, Bool, true, Some, sym, ap, subst}
use Rattle.bfs_super.specs.Geometry.{geometry_of}
use Rattle.bfs_tree.specs.Refusals.{first, held, is_full}
use Rattle.bfs_tree.specs.States.{conflict}
use Rattle.bfs_tree.specs.Trees.{IsNode}
use Rattle.bfs_tree.specs.declared.reply.Reply.TheVariants as replies
use Rattle.bfs_tree.specs.declared.state.Hold.{Hold}
use Rattle.bfs_tree.proofs.Members.{child-there}
use Rattle.bfs_look.specs.Ready.{IsReady, HasReady}
use Rattle.bfs_remove_node.proofs.Refusing.{looked_none, looked_some}
use Rattle.bfs_remove_node.proofs.Sought.{not_beyond}
use Rattle.bfs_remove_node.proofs.refusal.remove_refusal.Goals as goal

pub returns-in-Err-clause-refused : goal.returns-in-Err-clause-refused
returns-in-Err-clause-refused g c m tree lists s told ready same holds = c.in-Err.ensures.reads m tree lists s told ready same

pub returns-in-None-clause-refused : goal.returns-in-None-clause-refused
returns-in-None-clause-refused g c m tree lists s told ready same holds =
    ap Some c.refusal_by.ensures.reply
    ∙ sym (looked_none s c.args.dir c.args.name.now c.in-Ok.found (c.in-Ok.ensures.reads m tree lists s told ready same) (sym c.child_in.ensures ∙ c.in-None.is))

pub returns-then-dir-blocks_in-clause-refused : goal.returns-then-dir-blocks_in-clause-refused
returns-then-dir-blocks_in-clause-refused g c m tree lists s told ready same holds =
    let f = looked_some s c.args.dir c.args.name.now c.in-Ok.found (c.in-Ok.ensures.reads m tree lists s told ready same) c.in-Some.child (sym c.child_in.ensures ∙ c.in-Some.is) in
    absurd (not_beyond c.args.sup.now c.args.bitmap.now m tree lists ready c.args.dir f.d (subst (λ t. IsNode t c.args.dir f.d) same f.there)
    (subst (λ (n : ℕ). n ≤ c.args.dir) c.blocks_in.ensures c.if-dir-blocks_in.true))

pub is_full-requires-clause-ready : goal.is_full-requires-clause-ready
is_full-requires-clause-ready g c m told =
    subst (λ v. HasReady (geometry_of c.args.sup.now) v m) (sym c.in-Ok.ensures.bitmap) (c.requires.ready m (sym c.in-Ok.ensures.told ∙ told))

pub returns-in-Err-is_full-clause-refused : goal.returns-in-Err-is_full-clause-refused
returns-in-Err-is_full-clause-refused g c m tree lists s told ready same holds =
    let f = looked_some s c.args.dir c.args.name.now c.in-Ok.found (c.in-Ok.ensures.reads m tree lists s told ready same) c.in-Some.child (sym c.child_in.ensures ∙ c.in-Some.is) in
    let is = subst (λ t. IsNode t c.in-Some.child.id f.node) same (child-there s.tree c.args.dir c.args.name.now (c.in-Some.child.id, f.node) f.child_is).0 in
    c.in-Err-is_full.ensures.found m tree lists f.node (c.in-Ok.ensures.told ∙ told) (subst (λ v. IsReady (geometry_of c.args.sup.now) v m tree lists) (sym c.in-Ok.ensures.bitmap) ready) is f.kind_is

pub returns-then-full-clause-refused : goal.returns-then-full-clause-refused
returns-then-full-clause-refused g c m tree lists s told ready same holds =
    let f = looked_some s c.args.dir c.args.name.now c.in-Ok.found (c.in-Ok.ensures.reads m tree lists s told ready same) c.in-Some.child (sym c.child_in.ensures ∙ c.in-Some.is) in
    let id = c.in-Some.child.id in
    let is = subst (λ t. IsNode t id f.node) same (child-there s.tree c.args.dir c.args.name.now (id, f.node) f.child_is).0 in
    let full = c.in-Ok-is_full.ensures.found m tree lists f.node (c.in-Ok.ensures.told ∙ told) (subst (λ v. IsReady (geometry_of c.args.sup.now) v m tree lists) (sym c.in-Ok.ensures.bitmap) ready) is f.kind_is in
    sym (f.refusal ∙ ap (λ (b : Bool). first ((b, replies.NotEmpty) ∷ held (conflict s.holds id true)))
    (ap (λ t. is_full t id f.node) same ∙ sym full ∙ c.if-full.true))

pub returns-clause-refused : goal.returns-clause-refused
returns-clause-refused g c m tree lists s told ready same holds =
    let f = looked_some s c.args.dir c.args.name.now c.in-Ok.found (c.in-Ok.ensures.reads m tree lists s told ready same) c.in-Some.child (sym c.child_in.ensures ∙ c.in-Some.is) in
    let id = c.in-Some.child.id in
    let is = subst (λ t. IsNode t id f.node) same (child-there s.tree c.args.dir c.args.name.now (id, f.node) f.child_is).0 in
    let full = c.in-Ok-is_full.ensures.found m tree lists f.node (c.in-Ok.ensures.told ∙ told) (subst (λ v. IsReady (geometry_of c.args.sup.now) v m tree lists) (sym c.in-Ok.ensures.bitmap) ready) is f.kind_is in
    c.held_by.ensures.reply ∙ ap (λ (hs : List Hold). first (held (conflict hs id true))) (sym holds)
    ∙ sym (f.refusal ∙ ap (λ (b : Bool). first ((b, replies.NotEmpty) ∷ held (conflict s.holds id true)))
    (ap (λ t. is_full t id f.node) same ∙ sym full ∙ c.if-full.false))
