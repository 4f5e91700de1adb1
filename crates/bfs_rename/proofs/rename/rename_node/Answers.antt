use Rattle.std.proofs.Common.{rules, ◌≡◌, ◌∙◌, ℕ, ℤ, sym, ap, subst}
use mir.Syntax.{w64}
use mir.Val.{to_z, of_z}
use Rattle.bfs_super.specs.Geometry.{geometry_of}
use Rattle.bfs_bitmap.specs.Runs.{Room}
use Rattle.bfs_tree.specs.Refusals.{replaced}
use Rattle.bfs_tree.specs.Trees.{child}
use Rattle.bfs_stream.specs.Standing.{standing}
use Rattle.bfs_leave.proofs.Standing.{same_standing}
use Rattle.bfs_calls.proofs.Faulting.{undone_unanswered}
use Rattle.bfs_make.proofs.Telling.{told_back}
use Rattle.bfs_look.specs.Ready.{IsReady, HasReady}
use Rattle.bfs_rename.specs.Counted.{AreOf}
use Rattle.bfs_rename.specs.Done.{tree_vacated}
use Rattle.bfs_rename.specs.Moved.{HasMoved, IsMove}
use Rattle.bfs_rename.proofs.Vacated.{arriving, move_then, renamed_in, same_place, vacated_from, vacating}
use Rattle.bfs_rename.proofs.rename.rename_node.Goals as goal

pub returns-then-is_one_place-clause-renamed : goal.returns-then-is_one_place-clause-renamed
returns-then-is_one_place-clause-renamed g c m tree lists told ready =
    let e : to_z w64 (of_z w64 c.args.stamp) ≡ c.args.stamp = search rules in
    same_place tree ready.plain c.args.dir c.args.name.now c.args.to_dir c.args.to_name.now (c.requires.may m tree lists told ready) (geometry_of c.args.sup.now) c.args.bitmap.now m lists c.args.stamp
    (g.E.Blocks.told c.args.edits.now) (g.E.Blocks.changed c.args.edits.now) ready told (c.is_one_place.ensures.one c.if-is_one_place.true)

pub returns-in-Err-clause-unanswered : goal.returns-in-Err-clause-unanswered
returns-in-Err-clause-unanswered g c m tree lists told ready =
    let may = c.requires.may m tree lists told ready in
    undone_unanswered c.in-Err.fault (c.in-Err.ensures.found m tree lists may.d (may.id, may.node) told ready may.there may.dir_kind may.child_is)

pub other_at-requires-clause-ready : goal.other_at-requires-clause-ready
other_at-requires-clause-ready g c m told =
    subst (λ (r : Room). HasReady (geometry_of c.args.sup.now) r m) (sym c.in-Ok.ensures.bitmap) (c.requires.ready m (sym c.in-Ok.ensures.told ∙ told))

pub returns-in-Err-other_at-clause-unanswered : goal.returns-in-Err-other_at-clause-unanswered
returns-in-Err-other_at-clause-unanswered g c m tree lists told ready =
    let may = c.requires.may m tree lists told ready in
    let here = subst (λ (r : Room). IsReady (geometry_of c.args.sup.now) r m tree lists) (sym c.in-Ok.ensures.bitmap) ready in
    undone_unanswered c.in-Err-other_at.fault (c.in-Err-other_at.ensures.found m tree lists may.t (c.in-Ok.ensures.told ∙ told) here may.to_there may.to_kind)

pub vacate-requires-clause-vacating : goal.vacate-requires-clause-vacating
vacate-requires-clause-vacating g c m now =
    let told = sym (c.in-Ok-other_at.ensures.told ∙ c.in-Ok.ensures.told) ∙ now in
    let h = c.requires.ready m told in
    let s = geometry_of c.args.sup.now in
    let v = c.args.bitmap.now in
    let name = c.args.name.now in
    let to_name = c.args.to_name.now in
    let may = c.requires.may m h.tree h.lists told h.ready in
    let own = c.in-Ok.ensures.found m h.tree h.lists may.d (may.id, may.node) told h.ready may.there may.dir_kind may.child_is in
    let o = replaced may.id (child h.tree c.args.to_dir to_name) in
    let here1 = subst (λ (r : Room). IsReady s r m h.tree h.lists) (sym c.in-Ok.ensures.bitmap) h.ready in
    let told1 = c.in-Ok.ensures.told ∙ told in
    let found = c.in-Ok-other_at.ensures.found m h.tree h.lists may.t told1 here1 may.to_there may.to_kind in
    let of = subst (λ (k : ℕ). AreOf (replaced k (child h.tree c.args.to_dir to_name)) c.in-Ok-other_at.other) own.id found in
    let here2 = subst (λ (r : Room). IsReady s r m h.tree h.lists) (sym (c.in-Ok-other_at.ensures.bitmap ∙ c.in-Ok.ensures.bitmap)) h.ready in
    let told2 = c.in-Ok-other_at.ensures.told ∙ told1 in
    let leaves = vacating h.tree h.ready.plain c.args.dir name c.args.to_dir to_name may in
    record { tree = h.tree; lists = h.lists; ready = here2; o = o; of = of; vacating = leaves }

pub returns-in-Err-vacate-clause-unanswered : goal.returns-in-Err-vacate-clause-unanswered
returns-in-Err-vacate-clause-unanswered g c m tree lists told ready =
    let s = geometry_of c.args.sup.now in
    let v = c.args.bitmap.now in
    let name = c.args.name.now in
    let to_name = c.args.to_name.now in
    let may = c.requires.may m tree lists told ready in
    let own = c.in-Ok.ensures.found m tree lists may.d (may.id, may.node) told ready may.there may.dir_kind may.child_is in
    let o = replaced may.id (child tree c.args.to_dir to_name) in
    let here1 = subst (λ (r : Room). IsReady s r m tree lists) (sym c.in-Ok.ensures.bitmap) ready in
    let told1 = c.in-Ok.ensures.told ∙ told in
    let found = c.in-Ok-other_at.ensures.found m tree lists may.t told1 here1 may.to_there may.to_kind in
    let of = subst (λ (k : ℕ). AreOf (replaced k (child tree c.args.to_dir to_name)) c.in-Ok-other_at.other) own.id found in
    let here2 = subst (λ (r : Room). IsReady s r m tree lists) (sym (c.in-Ok-other_at.ensures.bitmap ∙ c.in-Ok.ensures.bitmap)) ready in
    let told2 = c.in-Ok-other_at.ensures.told ∙ told1 in
    let leaves = vacating tree ready.plain c.args.dir name c.args.to_dir to_name may in
    undone_unanswered c.in-Err-vacate.fault (c.in-Err-vacate.ensures.undone m tree lists o told2 here2 of leaves)

pub arrive-requires-clause-moving : goal.arrive-requires-clause-moving
arrive-requires-clause-moving g c k now =
    let before =
    told_back (g.E.Blocks.told c.args.edits.now) (g.E.Blocks.told c.vacate.new.edits) (g.E.Blocks.frame c.args.edits.now).below (g.E.Blocks.frame c.vacate.new.edits).below
    (g.met.E.Edits.tells c.args.edits.now) (g.met.E.Edits.tells c.vacate.new.edits) (ap (λ f. f.below) (c.in-Ok-vacate.ensures.frame ∙ c.in-Ok-other_at.ensures.frame ∙ c.in-Ok.ensures.frame)) k now in
    let m = before.0 in
    let told = before.1 in
    let h = c.requires.ready m told in
    let s = geometry_of c.args.sup.now in
    let v = c.args.bitmap.now in
    let name = c.args.name.now in
    let to_name = c.args.to_name.now in
    let may = c.requires.may m h.tree h.lists told h.ready in
    let own = c.in-Ok.ensures.found m h.tree h.lists may.d (may.id, may.node) told h.ready may.there may.dir_kind may.child_is in
    let o = replaced may.id (child h.tree c.args.to_dir to_name) in
    let here1 = subst (λ (r : Room). IsReady s r m h.tree h.lists) (sym c.in-Ok.ensures.bitmap) h.ready in
    let told1 = c.in-Ok.ensures.told ∙ told in
    let found = c.in-Ok-other_at.ensures.found m h.tree h.lists may.t told1 here1 may.to_there may.to_kind in
    let of = subst (λ (k : ℕ). AreOf (replaced k (child h.tree c.args.to_dir to_name)) c.in-Ok-other_at.other) own.id found in
    let here2 = subst (λ (r : Room). IsReady s r m h.tree h.lists) (sym (c.in-Ok-other_at.ensures.bitmap ∙ c.in-Ok.ensures.bitmap)) h.ready in
    let told2 = c.in-Ok-other_at.ensures.told ∙ told1 in
    let leaves = vacating h.tree h.ready.plain c.args.dir name c.args.to_dir to_name may in
    let v1 = c.vacate.new.bitmap in
    let t1 = g.E.Blocks.told c.vacate.new.edits in
    let c0 = g.E.Blocks.changed c.args.edits.now in
    let c1 = g.E.Blocks.changed c.vacate.new.edits in
    let one = vacated_from s v c.other_at.new.bitmap v1 m h.tree o t1 c0 (g.E.Blocks.changed c.other_at.new.edits) c1 (c.in-Ok-other_at.ensures.bitmap ∙ c.in-Ok.ensures.bitmap) (c.in-Ok-other_at.ensures.changed ∙ c.in-Ok.ensures.changed)
    (c.in-Ok-vacate.ensures.left m h.tree h.lists o told2 here2 of leaves) in
    let move = move_then h.tree h.ready.plain c.args.dir name c.args.to_dir to_name may (c.is_one_place.ensures.two c.if-is_one_place.false) in
    let after = tree_vacated h.tree o in
    arriving s v1 one.left.map t1 after one.lists c.args.dir name c.args.to_dir to_name may.id may.node c.in-Ok.child one.left.is one.ready move own k now

pub returns-in-Ok-arrive-clause-renamed : goal.returns-in-Ok-arrive-clause-renamed
returns-in-Ok-arrive-clause-renamed g c m tree lists told ready =
    let s = geometry_of c.args.sup.now in
    let v = c.args.bitmap.now in
    let name = c.args.name.now in
    let to_name = c.args.to_name.now in
    let may = c.requires.may m tree lists told ready in
    let own = c.in-Ok.ensures.found m tree lists may.d (may.id, may.node) told ready may.there may.dir_kind may.child_is in
    let o = replaced may.id (child tree c.args.to_dir to_name) in
    let here1 = subst (λ (r : Room). IsReady s r m tree lists) (sym c.in-Ok.ensures.bitmap) ready in
    let told1 = c.in-Ok.ensures.told ∙ told in
    let found = c.in-Ok-other_at.ensures.found m tree lists may.t told1 here1 may.to_there may.to_kind in
    let of = subst (λ (k : ℕ). AreOf (replaced k (child tree c.args.to_dir to_name)) c.in-Ok-other_at.other) own.id found in
    let here2 = subst (λ (r : Room). IsReady s r m tree lists) (sym (c.in-Ok-other_at.ensures.bitmap ∙ c.in-Ok.ensures.bitmap)) ready in
    let told2 = c.in-Ok-other_at.ensures.told ∙ told1 in
    let leaves = vacating tree ready.plain c.args.dir name c.args.to_dir to_name may in
    let v1 = c.vacate.new.bitmap in
    let t1 = g.E.Blocks.told c.vacate.new.edits in
    let c0 = g.E.Blocks.changed c.args.edits.now in
    let c1 = g.E.Blocks.changed c.vacate.new.edits in
    let one = vacated_from s v c.other_at.new.bitmap v1 m tree o t1 c0 (g.E.Blocks.changed c.other_at.new.edits) c1 (c.in-Ok-other_at.ensures.bitmap ∙ c.in-Ok.ensures.bitmap) (c.in-Ok-other_at.ensures.changed ∙ c.in-Ok.ensures.changed)
    (c.in-Ok-vacate.ensures.left m tree lists o told2 here2 of leaves) in
    let move = move_then tree ready.plain c.args.dir name c.args.to_dir to_name may (c.is_one_place.ensures.two c.if-is_one_place.false) in
    let after = tree_vacated tree o in
    let e : to_z w64 (of_z w64 c.args.stamp) ≡ c.args.stamp = search rules in
    let v2 = c.arrive.new.bitmap in
    let t2 = g.E.Blocks.told c.arrive.new.edits in
    let c2 = g.E.Blocks.changed c.arrive.new.edits in
    let there = subst (λ (x : ℕ). IsMove after c.args.dir name c.args.to_dir to_name x may.node) (sym own.id) move in
    let come = c.in-Ok-arrive.ensures.moved one.left.map after one.lists may.node one.left.is one.ready there own.kind in
    let two = subst (λ (x : ℕ). HasMoved s v1 v2 one.left.map after c.args.dir c.args.to_dir to_name c.args.stamp x t2 c1 c2) own.id
    (subst (λ (z : ℤ). HasMoved s v1 v2 one.left.map after c.args.dir c.args.to_dir to_name z c.in-Ok.child.id t2 c1 c2) e come) in
    renamed_in tree ready.plain c.args.dir name c.args.to_dir to_name may (c.is_one_place.ensures.two c.if-is_one_place.false) s v v1 v2 m c.args.stamp t1 t2 c0 c1 c2 one two

pub returns-in-Err-arrive-clause-unanswered : goal.returns-in-Err-arrive-clause-unanswered
returns-in-Err-arrive-clause-unanswered g c m tree lists told ready =
    let s = geometry_of c.args.sup.now in
    let v = c.args.bitmap.now in
    let name = c.args.name.now in
    let to_name = c.args.to_name.now in
    let may = c.requires.may m tree lists told ready in
    let own = c.in-Ok.ensures.found m tree lists may.d (may.id, may.node) told ready may.there may.dir_kind may.child_is in
    let o = replaced may.id (child tree c.args.to_dir to_name) in
    let here1 = subst (λ (r : Room). IsReady s r m tree lists) (sym c.in-Ok.ensures.bitmap) ready in
    let told1 = c.in-Ok.ensures.told ∙ told in
    let found = c.in-Ok-other_at.ensures.found m tree lists may.t told1 here1 may.to_there may.to_kind in
    let of = subst (λ (k : ℕ). AreOf (replaced k (child tree c.args.to_dir to_name)) c.in-Ok-other_at.other) own.id found in
    let here2 = subst (λ (r : Room). IsReady s r m tree lists) (sym (c.in-Ok-other_at.ensures.bitmap ∙ c.in-Ok.ensures.bitmap)) ready in
    let told2 = c.in-Ok-other_at.ensures.told ∙ told1 in
    let leaves = vacating tree ready.plain c.args.dir name c.args.to_dir to_name may in
    let v1 = c.vacate.new.bitmap in
    let t1 = g.E.Blocks.told c.vacate.new.edits in
    let c0 = g.E.Blocks.changed c.args.edits.now in
    let c1 = g.E.Blocks.changed c.vacate.new.edits in
    let one = vacated_from s v c.other_at.new.bitmap v1 m tree o t1 c0 (g.E.Blocks.changed c.other_at.new.edits) c1 (c.in-Ok-other_at.ensures.bitmap ∙ c.in-Ok.ensures.bitmap) (c.in-Ok-other_at.ensures.changed ∙ c.in-Ok.ensures.changed)
    (c.in-Ok-vacate.ensures.left m tree lists o told2 here2 of leaves) in
    let move = move_then tree ready.plain c.args.dir name c.args.to_dir to_name may (c.is_one_place.ensures.two c.if-is_one_place.false) in
    let after = tree_vacated tree o in
    c.in-Err-arrive.ensures.unanswered one.left.map after one.lists may.node one.left.is one.ready
    (subst (λ (x : ℕ). IsMove after c.args.dir name c.args.to_dir to_name x may.node) (sym own.id) move) own.kind

pub returns-in-Ok-arrive-clause-standing : goal.returns-in-Ok-arrive-clause-standing
returns-in-Ok-arrive-clause-standing g c =
    same_standing c.vacate.new.bitmap c.arrive.new.bitmap (ap (λ (r : Room). r.given) c.in-Ok-arrive.ensures.rest)
    ∙ c.in-Ok-vacate.ensures.standing ∙ ap standing (c.in-Ok-other_at.ensures.bitmap ∙ c.in-Ok.ensures.bitmap)

pub returns-in-Err-arrive-clause-standing : goal.returns-in-Err-arrive-clause-standing
returns-in-Err-arrive-clause-standing g c =
    same_standing c.vacate.new.bitmap c.arrive.new.bitmap (ap (λ (r : Room). r.given) c.in-Err-arrive.ensures.rest)
    ∙ c.in-Ok-vacate.ensures.standing ∙ ap standing (c.in-Ok-other_at.ensures.bitmap ∙ c.in-Ok.ensures.bitmap)
