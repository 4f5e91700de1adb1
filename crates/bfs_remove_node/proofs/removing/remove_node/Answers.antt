use Rattle.std.proofs.Common.{rules, ◌≡◌, ◌∙◌, ℕ, ℤ, pos, [], Bool, sym, ap, subst}
use mir.Syntax.{w64}
use mir.Val.{to_z, of_z}
use Rattle.bfs_base.specs.declared.kind.KeyKind.TheVariants.{Text}
use Rattle.bfs_bitmap.specs.Runs.{Room}
use Rattle.bfs_super.specs.Geometry.{geometry_of}
use Rattle.bfs_pages.specs.Maps.{without}
use Rattle.bfs_shift.specs.Lists.{with_rows}
use Rattle.bfs_shift.specs.Work.{IsStepped}
use Rattle.bfs_look.specs.Ready.{IsReady}
use Rattle.bfs_unlist.specs.Without.{HasUnlisted, HasNodeIn}
use Rattle.bfs_leave.proofs.Standing.{same_standing}
use Rattle.bfs_calls.specs.Made.{with_touched}
use Rattle.bfs_calls.proofs.Faulting.{read_cause, cause_earlier}
use Rattle.bfs_make.proofs.Telling.{told_back}
use Rattle.bfs_remove_node.proofs.Gone.{node_in, node_there, node_apart, directory_at, numbers, row_still, gives, still, holds_at, removed_in}
use Rattle.bfs_remove_node.proofs.removing.remove_node.Goals as goal

pub returns-in-Err-clause-undone : goal.returns-in-Err-clause-undone
returns-in-Err-clause-undone g c m tree lists told ready = c.in-Err.ensures.undone m tree lists told ready (c.requires.may m tree lists told ready)

pub returns-in-Err-clause-cause : goal.returns-in-Err-clause-cause
returns-in-Err-clause-cause g c = read_cause (g.E.Blocks.counts c.args.edits.now) (g.E.Blocks.counts c.child_id.new.edits) c.in-Err.fault c.in-Err.ensures.cause

pub unlist_node-requires-clause-node : goal.unlist_node-requires-clause-node
unlist_node-requires-clause-node g c m now =
    let told = sym c.in-Ok.ensures.told ∙ now in
    let h = c.requires.ready m told in
    let s = geometry_of c.args.sup.now in
    let v = c.args.bitmap.now in
    let name = c.args.name.now in
    let id = c.in-Ok.id in
    let may = c.requires.may m h.tree h.lists told h.ready in
    let at = c.in-Ok.ensures.found m h.tree h.lists told h.ready may in
    subst (λ (r : Room). HasNodeIn s r m id) (sym c.in-Ok.ensures.bitmap) (node_in c.args.sup.now v m h.tree h.lists h.ready c.requires.valid c.args.dir name may id at)

pub returns-in-Err-unlist_node-clause-undone : goal.returns-in-Err-unlist_node-clause-undone
returns-in-Err-unlist_node-clause-undone g c m tree lists told ready =
    let s = geometry_of c.args.sup.now in
    let v = c.args.bitmap.now in
    let name = c.args.name.now in
    let id = c.in-Ok.id in
    let may = c.requires.may m tree lists told ready in
    let at = c.in-Ok.ensures.found m tree lists told ready may in
    let here : IsReady s c.child_id.new.bitmap m tree lists = subst (λ (r : Room). IsReady s r m tree lists) (sym c.in-Ok.ensures.bitmap) ready in
    let there = node_there c.args.sup.now v m tree lists ready c.requires.valid c.args.dir name may id at in
    let apart = node_apart c.args.sup.now v m tree lists ready c.requires.valid c.args.dir name may id at in
    c.in-Err-unlist_node.ensures.refused m tree lists at.0 (c.in-Ok.ensures.told ∙ told) here there apart

pub returns-in-Err-unlist_node-clause-cause : goal.returns-in-Err-unlist_node-clause-cause
returns-in-Err-unlist_node-clause-cause g c =
    cause_earlier (g.E.Blocks.counts c.args.edits.now) (g.E.Blocks.counts c.child_id.new.edits) (g.E.Blocks.counts c.unlist_node.new.edits) c.in-Err-unlist_node.fault c.in-Ok.ensures.later
    (read_cause (g.E.Blocks.counts c.child_id.new.edits) (g.E.Blocks.counts c.unlist_node.new.edits) c.in-Err-unlist_node.fault c.in-Err-unlist_node.ensures.cause)

pub leave_name-requires-clause-directory : goal.leave_name-requires-clause-directory
leave_name-requires-clause-directory g c n now =
    let before =
    told_back (g.E.Blocks.told c.args.edits.now) (g.E.Blocks.told c.unlist_node.new.edits) (g.E.Blocks.frame c.args.edits.now).below (g.E.Blocks.frame c.unlist_node.new.edits).below
    (g.met.E.Edits.tells c.args.edits.now) (g.met.E.Edits.tells c.unlist_node.new.edits) (ap (λ f. f.below) (c.in-Ok-unlist_node.ensures.frame ∙ c.in-Ok.ensures.frame)) n now in
    let m = before.0 in
    let told = before.1 in
    let h = c.requires.ready m told in
    let s = geometry_of c.args.sup.now in
    let v = c.args.bitmap.now in
    let name = c.args.name.now in
    let id = c.in-Ok.id in
    let may = c.requires.may m h.tree h.lists told h.ready in
    let at = c.in-Ok.ensures.found m h.tree h.lists told h.ready may in
    let here : IsReady s c.child_id.new.bitmap m h.tree h.lists = subst (λ (r : Room). IsReady s r m h.tree h.lists) (sym c.in-Ok.ensures.bitmap) h.ready in
    let there = node_there c.args.sup.now v m h.tree h.lists h.ready c.requires.valid c.args.dir name may id at in
    let apart = node_apart c.args.sup.now v m h.tree h.lists h.ready c.requires.valid c.args.dir name may id at in
    let t1 = g.E.Blocks.told c.unlist_node.new.edits in
    let c0 = g.E.Blocks.changed c.args.edits.now in
    let c1 = g.E.Blocks.changed c.unlist_node.new.edits in
    let v1 = c.unlist_node.new.bitmap in
    let one : HasUnlisted s v v1 m h.tree h.lists id t1 c0 c1 =
    subst (λ (r : Room). HasUnlisted s r v1 m h.tree h.lists id t1 c0 c1) c.in-Ok.ensures.bitmap
    (subst (λ (ch : ℕ → Bool). HasUnlisted s c.child_id.new.bitmap v1 m h.tree h.lists id t1 ch c1) c.in-Ok.ensures.changed
    (c.in-Ok-unlist_node.ensures.unlisted m h.tree h.lists at.0 (c.in-Ok.ensures.told ∙ told) here there apart)) in
    let nums = numbers c.args.sup.now v m h.tree h.lists h.ready c.requires.valid c.args.dir name may id at v1 t1 c0 c1 one in
    directory_at c.args.sup.now v m h.tree h.lists h.ready c.requires.valid c.args.dir name may id at v1 t1 c0 c1 one n now

pub returns-in-Err-leave_name-clause-undone : goal.returns-in-Err-leave_name-clause-undone
returns-in-Err-leave_name-clause-undone g c m tree lists told ready =
    let s = geometry_of c.args.sup.now in
    let v = c.args.bitmap.now in
    let name = c.args.name.now in
    let id = c.in-Ok.id in
    let may = c.requires.may m tree lists told ready in
    let at = c.in-Ok.ensures.found m tree lists told ready may in
    let here : IsReady s c.child_id.new.bitmap m tree lists = subst (λ (r : Room). IsReady s r m tree lists) (sym c.in-Ok.ensures.bitmap) ready in
    let there = node_there c.args.sup.now v m tree lists ready c.requires.valid c.args.dir name may id at in
    let apart = node_apart c.args.sup.now v m tree lists ready c.requires.valid c.args.dir name may id at in
    let t1 = g.E.Blocks.told c.unlist_node.new.edits in
    let c0 = g.E.Blocks.changed c.args.edits.now in
    let c1 = g.E.Blocks.changed c.unlist_node.new.edits in
    let v1 = c.unlist_node.new.bitmap in
    let one : HasUnlisted s v v1 m tree lists id t1 c0 c1 =
    subst (λ (r : Room). HasUnlisted s r v1 m tree lists id t1 c0 c1) c.in-Ok.ensures.bitmap
    (subst (λ (ch : ℕ → Bool). HasUnlisted s c.child_id.new.bitmap v1 m tree lists id t1 ch c1) c.in-Ok.ensures.changed
    (c.in-Ok-unlist_node.ensures.unlisted m tree lists at.0 (c.in-Ok.ensures.told ∙ told) here there apart)) in
    let nums = numbers c.args.sup.now v m tree lists ready c.requires.valid c.args.dir name may id at v1 t1 c0 c1 one in
    c.in-Err-leave_name.ensures.undone one.step.map tree one.last may.d (pos id) one.step.is one.step.work may.there may.dir_kind nums
    (row_still c.args.sup.now v m tree lists ready c.requires.valid c.args.dir name may id at v1 t1 c0 c1 one)

pub returns-in-Err-leave_name-clause-cause : goal.returns-in-Err-leave_name-clause-cause
returns-in-Err-leave_name-clause-cause g c =
    cause_earlier (g.E.Blocks.counts c.args.edits.now) (g.E.Blocks.counts c.child_id.new.edits) (g.E.Blocks.counts c.leave_name.new.edits) c.in-Err-leave_name.fault c.in-Ok.ensures.later
    (cause_earlier (g.E.Blocks.counts c.child_id.new.edits) (g.E.Blocks.counts c.unlist_node.new.edits) (g.E.Blocks.counts c.leave_name.new.edits) c.in-Err-leave_name.fault c.in-Ok-unlist_node.ensures.later c.in-Err-leave_name.ensures.cause)

pub give_node-requires-clause-node : goal.give_node-requires-clause-node
give_node-requires-clause-node g c n now =
    let before =
    told_back (g.E.Blocks.told c.args.edits.now) (g.E.Blocks.told c.leave_name.new.edits) (g.E.Blocks.frame c.args.edits.now).below (g.E.Blocks.frame c.leave_name.new.edits).below
    (g.met.E.Edits.tells c.args.edits.now) (g.met.E.Edits.tells c.leave_name.new.edits) (ap (λ f. f.below) (c.in-Ok-leave_name.ensures.frame ∙ c.in-Ok-unlist_node.ensures.frame ∙ c.in-Ok.ensures.frame)) n now in
    let m = before.0 in
    let told = before.1 in
    let h = c.requires.ready m told in
    let s = geometry_of c.args.sup.now in
    let v = c.args.bitmap.now in
    let name = c.args.name.now in
    let id = c.in-Ok.id in
    let may = c.requires.may m h.tree h.lists told h.ready in
    let at = c.in-Ok.ensures.found m h.tree h.lists told h.ready may in
    let here : IsReady s c.child_id.new.bitmap m h.tree h.lists = subst (λ (r : Room). IsReady s r m h.tree h.lists) (sym c.in-Ok.ensures.bitmap) h.ready in
    let there = node_there c.args.sup.now v m h.tree h.lists h.ready c.requires.valid c.args.dir name may id at in
    let apart = node_apart c.args.sup.now v m h.tree h.lists h.ready c.requires.valid c.args.dir name may id at in
    let t1 = g.E.Blocks.told c.unlist_node.new.edits in
    let c0 = g.E.Blocks.changed c.args.edits.now in
    let c1 = g.E.Blocks.changed c.unlist_node.new.edits in
    let v1 = c.unlist_node.new.bitmap in
    let one : HasUnlisted s v v1 m h.tree h.lists id t1 c0 c1 =
    subst (λ (r : Room). HasUnlisted s r v1 m h.tree h.lists id t1 c0 c1) c.in-Ok.ensures.bitmap
    (subst (λ (ch : ℕ → Bool). HasUnlisted s c.child_id.new.bitmap v1 m h.tree h.lists id t1 ch c1) c.in-Ok.ensures.changed
    (c.in-Ok-unlist_node.ensures.unlisted m h.tree h.lists at.0 (c.in-Ok.ensures.told ∙ told) here there apart)) in
    let nums = numbers c.args.sup.now v m h.tree h.lists h.ready c.requires.valid c.args.dir name may id at v1 t1 c0 c1 one in
    let e : to_z w64 (of_z w64 c.args.stamp) ≡ c.args.stamp = search rules in
    let rows = with_rows one.last c.args.dir (without Text (one.last.rows c.args.dir) name) in
    let t2 = g.E.Blocks.told c.leave_name.new.edits in
    let c2 = g.E.Blocks.changed c.leave_name.new.edits in
    let v2 = c.leave_name.new.bitmap in
    let two : IsStepped s v1 v2 one.step.map h.tree (with_touched h.tree c.args.dir may.d c.args.stamp) rows [] t2 c1 c2 =
    subst (λ (z : ℤ). IsStepped s v1 v2 one.step.map h.tree (with_touched h.tree c.args.dir may.d z) rows [] t2 c1 c2) e
    (c.in-Ok-leave_name.ensures.left one.step.map h.tree one.last may.d one.step.is one.step.work may.there may.dir_kind nums) in
    holds_at c.args.sup.now v m h.tree h.lists h.ready c.requires.valid c.args.dir name may id at v1 t1 c0 c1 one c.args.stamp v2 t2 c2 two n now

pub returns-in-Err-give_node-clause-undone : goal.returns-in-Err-give_node-clause-undone
returns-in-Err-give_node-clause-undone g c m tree lists told ready =
    let s = geometry_of c.args.sup.now in
    let v = c.args.bitmap.now in
    let name = c.args.name.now in
    let id = c.in-Ok.id in
    let may = c.requires.may m tree lists told ready in
    let at = c.in-Ok.ensures.found m tree lists told ready may in
    let here : IsReady s c.child_id.new.bitmap m tree lists = subst (λ (r : Room). IsReady s r m tree lists) (sym c.in-Ok.ensures.bitmap) ready in
    let there = node_there c.args.sup.now v m tree lists ready c.requires.valid c.args.dir name may id at in
    let apart = node_apart c.args.sup.now v m tree lists ready c.requires.valid c.args.dir name may id at in
    let t1 = g.E.Blocks.told c.unlist_node.new.edits in
    let c0 = g.E.Blocks.changed c.args.edits.now in
    let c1 = g.E.Blocks.changed c.unlist_node.new.edits in
    let v1 = c.unlist_node.new.bitmap in
    let one : HasUnlisted s v v1 m tree lists id t1 c0 c1 =
    subst (λ (r : Room). HasUnlisted s r v1 m tree lists id t1 c0 c1) c.in-Ok.ensures.bitmap
    (subst (λ (ch : ℕ → Bool). HasUnlisted s c.child_id.new.bitmap v1 m tree lists id t1 ch c1) c.in-Ok.ensures.changed
    (c.in-Ok-unlist_node.ensures.unlisted m tree lists at.0 (c.in-Ok.ensures.told ∙ told) here there apart)) in
    let nums = numbers c.args.sup.now v m tree lists ready c.requires.valid c.args.dir name may id at v1 t1 c0 c1 one in
    let e : to_z w64 (of_z w64 c.args.stamp) ≡ c.args.stamp = search rules in
    let rows = with_rows one.last c.args.dir (without Text (one.last.rows c.args.dir) name) in
    let t2 = g.E.Blocks.told c.leave_name.new.edits in
    let c2 = g.E.Blocks.changed c.leave_name.new.edits in
    let v2 = c.leave_name.new.bitmap in
    let two : IsStepped s v1 v2 one.step.map tree (with_touched tree c.args.dir may.d c.args.stamp) rows [] t2 c1 c2 =
    subst (λ (z : ℤ). IsStepped s v1 v2 one.step.map tree (with_touched tree c.args.dir may.d z) rows [] t2 c1 c2) e
    (c.in-Ok-leave_name.ensures.left one.step.map tree one.last may.d one.step.is one.step.work may.there may.dir_kind nums) in
    c.in-Err-give_node.ensures.sound two.map (with_touched tree c.args.dir may.d c.args.stamp) rows [] at.0 two.is two.work
    (still c.args.sup.now v m tree lists ready c.requires.valid c.args.dir name may id at v1 t1 c0 c1 one c.args.stamp v2 t2 c2 two)

pub returns-in-Err-give_node-clause-cause : goal.returns-in-Err-give_node-clause-cause
returns-in-Err-give_node-clause-cause g c =
    let k0 = g.E.Blocks.counts c.args.edits.now in
    let k1 = g.E.Blocks.counts c.child_id.new.edits in
    let k2 = g.E.Blocks.counts c.unlist_node.new.edits in
    let k3 = g.E.Blocks.counts c.leave_name.new.edits in
    let k4 = g.E.Blocks.counts c.give_node.new.edits in
    let f = c.in-Err-give_node.fault in
    cause_earlier k0 k1 k4 f c.in-Ok.ensures.later (cause_earlier k1 k2 k4 f c.in-Ok-unlist_node.ensures.later (cause_earlier k2 k3 k4 f c.in-Ok-leave_name.ensures.later (read_cause k3 k4 f c.in-Err-give_node.ensures.cause)))

pub returns-in-Ok-give_node-clause-removed : goal.returns-in-Ok-give_node-clause-removed
returns-in-Ok-give_node-clause-removed g c m tree lists told ready =
    let s = geometry_of c.args.sup.now in
    let v = c.args.bitmap.now in
    let name = c.args.name.now in
    let id = c.in-Ok.id in
    let may = c.requires.may m tree lists told ready in
    let at = c.in-Ok.ensures.found m tree lists told ready may in
    let here : IsReady s c.child_id.new.bitmap m tree lists = subst (λ (r : Room). IsReady s r m tree lists) (sym c.in-Ok.ensures.bitmap) ready in
    let there = node_there c.args.sup.now v m tree lists ready c.requires.valid c.args.dir name may id at in
    let apart = node_apart c.args.sup.now v m tree lists ready c.requires.valid c.args.dir name may id at in
    let t1 = g.E.Blocks.told c.unlist_node.new.edits in
    let c0 = g.E.Blocks.changed c.args.edits.now in
    let c1 = g.E.Blocks.changed c.unlist_node.new.edits in
    let v1 = c.unlist_node.new.bitmap in
    let one : HasUnlisted s v v1 m tree lists id t1 c0 c1 =
    subst (λ (r : Room). HasUnlisted s r v1 m tree lists id t1 c0 c1) c.in-Ok.ensures.bitmap
    (subst (λ (ch : ℕ → Bool). HasUnlisted s c.child_id.new.bitmap v1 m tree lists id t1 ch c1) c.in-Ok.ensures.changed
    (c.in-Ok-unlist_node.ensures.unlisted m tree lists at.0 (c.in-Ok.ensures.told ∙ told) here there apart)) in
    let nums = numbers c.args.sup.now v m tree lists ready c.requires.valid c.args.dir name may id at v1 t1 c0 c1 one in
    let e : to_z w64 (of_z w64 c.args.stamp) ≡ c.args.stamp = search rules in
    let rows = with_rows one.last c.args.dir (without Text (one.last.rows c.args.dir) name) in
    let t2 = g.E.Blocks.told c.leave_name.new.edits in
    let c2 = g.E.Blocks.changed c.leave_name.new.edits in
    let v2 = c.leave_name.new.bitmap in
    let two : IsStepped s v1 v2 one.step.map tree (with_touched tree c.args.dir may.d c.args.stamp) rows [] t2 c1 c2 =
    subst (λ (z : ℤ). IsStepped s v1 v2 one.step.map tree (with_touched tree c.args.dir may.d z) rows [] t2 c1 c2) e
    (c.in-Ok-leave_name.ensures.left one.step.map tree one.last may.d one.step.is one.step.work may.there may.dir_kind nums) in
    let gone = gives c.args.sup.now v m tree lists ready c.requires.valid c.args.dir name may id at v1 t1 c0 c1 one c.args.stamp v2 t2 c2 two in
    removed_in c.args.sup.now v m tree lists ready c.requires.valid c.args.dir name may id at v1 t1 c0 c1 one c.args.stamp v2 t2 c2 two c.give_node.new.bitmap (g.E.Blocks.told c.give_node.new.edits) (g.E.Blocks.changed c.give_node.new.edits)
    (c.in-Ok-give_node.ensures.given two.map (with_touched tree c.args.dir may.d c.args.stamp) rows [] at.0 two.is two.work gone.clear
    (still c.args.sup.now v m tree lists ready c.requires.valid c.args.dir name may id at v1 t1 c0 c1 one c.args.stamp v2 t2 c2 two))

pub returns-in-Err-unlist_node-clause-standing : goal.returns-in-Err-unlist_node-clause-standing
returns-in-Err-unlist_node-clause-standing g c =
    same_standing c.args.bitmap.now c.unlist_node.new.bitmap (ap (λ (r : Room). r.given) c.in-Err-unlist_node.ensures.rest ∙ ap (λ (r : Room). r.given) c.in-Ok.ensures.bitmap)

pub returns-in-Err-leave_name-clause-standing : goal.returns-in-Err-leave_name-clause-standing
returns-in-Err-leave_name-clause-standing g c =
    same_standing c.args.bitmap.now c.leave_name.new.bitmap
    (ap (λ (r : Room). r.given) c.in-Err-leave_name.ensures.rest ∙ ap (λ (r : Room). r.given) c.in-Ok-unlist_node.ensures.rest ∙ ap (λ (r : Room). r.given) c.in-Ok.ensures.bitmap)

pub returns-in-Ok-give_node-clause-standing : goal.returns-in-Ok-give_node-clause-standing
returns-in-Ok-give_node-clause-standing g c =
    c.in-Ok-give_node.ensures.standing
    ∙ same_standing c.args.bitmap.now c.leave_name.new.bitmap
    (ap (λ (r : Room). r.given) c.in-Ok-leave_name.ensures.rest ∙ ap (λ (r : Room). r.given) c.in-Ok-unlist_node.ensures.rest ∙ ap (λ (r : Room). r.given) c.in-Ok.ensures.bitmap)

pub returns-in-Err-give_node-clause-standing : goal.returns-in-Err-give_node-clause-standing
returns-in-Err-give_node-clause-standing g c =
    c.in-Err-give_node.ensures.standing
    ∙ same_standing c.args.bitmap.now c.leave_name.new.bitmap
    (ap (λ (r : Room). r.given) c.in-Ok-leave_name.ensures.rest ∙ ap (λ (r : Room). r.given) c.in-Ok-unlist_node.ensures.rest ∙ ap (λ (r : Room). r.given) c.in-Ok.ensures.bitmap)
