use Rattle.std.proofs.Common.{rules, ◌≡◌, ◌∙◌, ℕ, ℤ, [], Bool, refl, sym, subst}
use mir.Syntax.{w64}
use mir.Val.{to_z, of_z}
use Rattle.std.specs.FinMap.{empty}
use Rattle.bfs_bitmap.specs.Runs.{Room}
use Rattle.bfs_super.specs.Geometry.{geometry_of}
use Rattle.bfs_tree.specs.States.{State}
use Rattle.bfs_tree.specs.declared.call.Call.TheVariants as calls
use Rattle.bfs_look.specs.Ready.{IsReady, HasReady}
use Rattle.bfs_calls.specs.Done.{IsDoneSo}
use Rattle.bfs_calls.specs.Made.{IsMadeIn}
use Rattle.bfs_calls.proofs.Faulting.{undone_unanswered}
use Rattle.bfs_calls.proofs.Answering.{refused_so, made_so}
use Rattle.bfs_calls.proofs.making.make.Goals as goal

pub returns-in-Err-clause-unanswered : goal.returns-in-Err-clause-unanswered
returns-in-Err-clause-unanswered g c m tree lists told ready =
    undone_unanswered c.in-Err.fault (c.in-Err.ensures.refused m tree lists (record { tree = tree; holds = []; known = empty }) c.args.mode told ready refl)

pub returns-in-Some-clause-answered : goal.returns-in-Some-clause-answered
returns-in-Some-clause-answered g c m tree lists told ready =
    let s = geometry_of c.args.sup.now in
    subst (λ (v : Room). IsDoneSo s c.args.bitmap.now v m tree c.args.stamp (calls.Make c.args.dir c.args.name.now c.args.kind.now c.args.mode) c.in-Some.reply (g.E.Blocks.told c.make_refusal.new.edits) (g.E.Blocks.changed c.args.edits.now) (g.E.Blocks.changed c.make_refusal.new.edits)) (sym c.in-Ok.ensures.bitmap)
    (subst (λ (ch : ℕ → Bool). IsDoneSo s c.args.bitmap.now c.args.bitmap.now m tree c.args.stamp (calls.Make c.args.dir c.args.name.now c.args.kind.now c.args.mode) c.in-Some.reply (g.E.Blocks.told c.make_refusal.new.edits) (g.E.Blocks.changed c.args.edits.now) ch) (sym c.in-Ok.ensures.changed)
    (refused_so s c.args.bitmap.now m tree lists (g.E.Blocks.told c.make_refusal.new.edits) (g.E.Blocks.changed c.args.edits.now) c.args.stamp (calls.Make c.args.dir c.args.name.now c.args.kind.now c.args.mode) c.in-Some.reply (c.in-Ok.ensures.told ∙ told) ready
    (λ st same. sym (sym c.in-Some.is ∙ c.in-Ok.ensures.refused m tree lists st c.args.mode told ready same))))

pub make_node-requires-clause-ready : goal.make_node-requires-clause-ready
make_node-requires-clause-ready g c m told =
    subst (λ (v : Room). HasReady (geometry_of c.args.sup.now) v m) (sym c.in-Ok.ensures.bitmap) (c.requires.ready m (sym c.in-Ok.ensures.told ∙ told))

pub make_node-requires-clause-fine : goal.make_node-requires-clause-fine
make_node-requires-clause-fine g c m tree lists st told ready same =
    sym (sym c.in-None.is ∙ c.in-Ok.ensures.refused m tree lists st c.args.mode (sym c.in-Ok.ensures.told ∙ told) (subst (λ (v : Room). IsReady (geometry_of c.args.sup.now) v m tree lists) c.in-Ok.ensures.bitmap ready) same)

pub returns-in-Ok-make_node-clause-answered : goal.returns-in-Ok-make_node-clause-answered
returns-in-Ok-make_node-clause-answered g c m tree lists told ready =
    let s = geometry_of c.args.sup.now in
    let e : to_z w64 (of_z w64 c.args.stamp) ≡ c.args.stamp = search rules in
    let st : State = record { tree = tree; holds = []; known = empty } in
    let ready_here = subst (λ (v : Room). IsReady s v m tree lists) (sym c.in-Ok.ensures.bitmap) ready in
    let one : IsMadeIn s c.args.bitmap.now c.make_node.new.bitmap m tree st c.args.dir c.args.name.now c.args.kind.now c.args.mode c.args.stamp c.in-Ok-make_node.id (g.E.Blocks.told c.make_node.new.edits) (g.E.Blocks.changed c.args.edits.now) (g.E.Blocks.changed c.make_node.new.edits) =
    subst (λ (v : Room). IsMadeIn s v c.make_node.new.bitmap m tree st c.args.dir c.args.name.now c.args.kind.now c.args.mode c.args.stamp c.in-Ok-make_node.id (g.E.Blocks.told c.make_node.new.edits) (g.E.Blocks.changed c.args.edits.now) (g.E.Blocks.changed c.make_node.new.edits)) c.in-Ok.ensures.bitmap
    (subst (λ (ch : ℕ → Bool). IsMadeIn s c.make_refusal.new.bitmap c.make_node.new.bitmap m tree st c.args.dir c.args.name.now c.args.kind.now c.args.mode c.args.stamp c.in-Ok-make_node.id (g.E.Blocks.told c.make_node.new.edits) ch (g.E.Blocks.changed c.make_node.new.edits)) c.in-Ok.ensures.changed
    (subst (λ (z : ℤ). IsMadeIn s c.make_refusal.new.bitmap c.make_node.new.bitmap m tree st c.args.dir c.args.name.now c.args.kind.now c.args.mode z c.in-Ok-make_node.id (g.E.Blocks.told c.make_node.new.edits) (g.E.Blocks.changed c.make_refusal.new.edits) (g.E.Blocks.changed c.make_node.new.edits)) e
    (c.in-Ok-make_node.ensures.made m tree lists st (c.in-Ok.ensures.told ∙ told) ready_here refl))) in
    made_so s c.args.bitmap.now c.make_node.new.bitmap m tree c.args.dir c.args.name.now c.args.kind.now c.args.mode c.args.stamp c.in-Ok-make_node.id (g.E.Blocks.told c.make_node.new.edits) (g.E.Blocks.changed c.args.edits.now) (g.E.Blocks.changed c.make_node.new.edits)
    (λ other same. sym (sym c.in-None.is ∙ c.in-Ok.ensures.refused m tree lists other c.args.mode told ready same)) one

pub returns-in-Err-make_node-clause-unanswered : goal.returns-in-Err-make_node-clause-unanswered
returns-in-Err-make_node-clause-unanswered g c m tree lists told ready =
    c.in-Err-make_node.ensures.unanswered m tree lists (c.in-Ok.ensures.told ∙ told) (subst (λ (v : Room). IsReady (geometry_of c.args.sup.now) v m tree lists) (sym c.in-Ok.ensures.bitmap) ready)
