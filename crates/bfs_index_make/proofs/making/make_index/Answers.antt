use Rattle.std.proofs.Common.{◌∙◌, ℕ, Bool, ap, sym, subst}
use Rattle.bfs_super.specs.Geometry.{geometry_of}
use Rattle.bfs_bitmap.specs.Runs.{Room}
use Rattle.bfs_calls.specs.Done.{IsDone}
use Rattle.bfs_calls.proofs.Faulting.{undone_unanswered}
use Rattle.bfs_index_check.specs.Compared.{pairs_of}
use Rattle.bfs_look.specs.Ready.{IsReady}
use Rattle.bfs_index_make.specs.Made.{HasNewIndex, with_new_index}
use Rattle.bfs_index_make.proofs.making.make_index.Goals as goal

pub returns-in-Err-clause-unanswered : goal.returns-in-Err-clause-unanswered
returns-in-Err-clause-unanswered g c m tree lists told ready = undone_unanswered c.in-Err.fault (c.in-Err.ensures.wanted m tree lists told ready)

pub make_with-requires-clause-ready : goal.make_with-requires-clause-ready
make_with-requires-clause-ready g c m told =
    let before = sym c.in-Ok.ensures.told ∙ told in
    let h = c.requires.ready m before in
    subst (λ (v : Room). HasNewIndex (geometry_of c.args.sup.now) v m c.args.name.now c.args.kind (pairs_of c.deref.result.now)) (sym c.in-Ok.ensures.bitmap)
    (record {
      tree = h.tree;
      lists = h.lists;
      ready = h.ready;
      fresh = c.requires.fresh m h.tree h.lists before h.ready;
      wanted = ap pairs_of c.deref.ensures.value ∙ c.in-Ok.ensures.wanted m h.tree h.lists before h.ready;
    })

pub returns-in-Ok-make_with-clause-made : goal.returns-in-Ok-make_with-clause-made
returns-in-Ok-make_with-clause-made g c m tree lists told ready =
    let s = geometry_of c.args.sup.now in
    let now = c.make_with.new.bitmap in
    let told_now = g.E.Blocks.told c.make_with.new.edits in
    let new = g.E.Blocks.changed c.make_with.new.edits in
    let ready_here = subst (λ (v : Room). IsReady s v m tree lists) (sym c.in-Ok.ensures.bitmap) ready in
    let wanted = ap pairs_of c.deref.ensures.value ∙ c.in-Ok.ensures.wanted m tree lists told ready in
    subst (λ (v : Room). IsDone s v now m tree (with_new_index tree c.args.name.now c.args.kind) told_now (g.E.Blocks.changed c.args.edits.now) new) c.in-Ok.ensures.bitmap
    (subst (λ (old : ℕ → Bool). IsDone s c.wanted_pairs.new.bitmap now m tree (with_new_index tree c.args.name.now c.args.kind) told_now old new) c.in-Ok.ensures.changed
    (c.in-Ok-make_with.ensures.made m tree lists (c.in-Ok.ensures.told ∙ told) ready_here (c.requires.fresh m tree lists told ready) wanted))

pub returns-clause-unanswered : goal.returns-clause-unanswered
returns-clause-unanswered g c m tree lists told ready =
    let s = geometry_of c.args.sup.now in
    let ready_here = subst (λ (v : Room). IsReady s v m tree lists) (sym c.in-Ok.ensures.bitmap) ready in
    let wanted = ap pairs_of c.deref.ensures.value ∙ c.in-Ok.ensures.wanted m tree lists told ready in
    c.in-Err-make_with.ensures.unanswered m tree lists (c.in-Ok.ensures.told ∙ told) ready_here (c.requires.fresh m tree lists told ready) wanted
