use Rattle.std.proofs.Common.{◌≤◌, ◌+◌, ◌*◌, ◌∙◌, ℕ, cond, min, sym, ap, subst}
use Rattle.std.specs.Prelude.{is_some}
use Rattle.bfs_super.specs.Geometry.{geometry_of}
use Rattle.bfs_bitmap.specs.Runs.{Room}
use Rattle.bfs_tree.specs.Refusals.{replaced}
use Rattle.bfs_tree.specs.Trees.{IsNode, child, is_dir}
use Rattle.bfs_tree.specs.declared.call.Call.TheVariants.{Rename}
use Rattle.bfs_tree.specs.declared.call.Kind.{Kind}
use Rattle.bfs_tree.proofs.Members.{child-there}
use Rattle.bfs_sound.specs.Need.{logged_need, moves}
use Rattle.bfs_shift.specs.Shifts.{volume_in}
use Rattle.bfs_look.specs.Ready.{IsReady, HasReady}
use Rattle.bfs_rename.specs.Counted.{AreOf}
use Rattle.bfs_rename.specs.Moving.{AreMoving}
use Rattle.bfs_rename.proofs.Allowing.{allowed, within}
use Rattle.bfs_rename.proofs.Childs.{nodes_there, proper}
use Rattle.bfs_rename.proofs.allowance.rename_allowance.Goals as goal

pub returns-in-Err-clause-allowed : goal.returns-in-Err-clause-allowed
returns-in-Err-clause-allowed g c m tree lists told ready =
    let may = c.requires.may m tree lists told ready in
    c.in-Err.ensures.found m tree lists may.d (may.id, may.node) told ready may.there may.dir_kind may.child_is

pub built_in_indices-requires-clause-ready : goal.built_in_indices-requires-clause-ready
built_in_indices-requires-clause-ready g c m told =
    subst (λ (r : Room). HasReady (geometry_of c.args.sup.now) r m) (sym c.in-Ok.ensures.bitmap) (c.requires.ready m (sym c.in-Ok.ensures.told ∙ told))

pub returns-in-Err-built_in_indices-clause-allowed : goal.returns-in-Err-built_in_indices-clause-allowed
returns-in-Err-built_in_indices-clause-allowed g c m tree lists told ready =
    c.in-Err-built_in_indices.ensures.found m tree lists (c.in-Ok.ensures.told ∙ told) (subst (λ (r : Room). IsReady (geometry_of c.args.sup.now) r m tree lists) (sym c.in-Ok.ensures.bitmap) ready)

pub returns-in-Err-moving_of-clause-allowed : goal.returns-in-Err-moving_of-clause-allowed
returns-in-Err-moving_of-clause-allowed g c m tree lists told ready =
    let may = c.requires.may m tree lists told ready in
    let of = c.in-Ok.ensures.found m tree lists may.d (may.id, may.node) told ready may.there may.dir_kind may.child_is in
    let there = child-there tree c.args.dir c.args.name.now (may.id, may.node) may.child_is in
    c.in-Err-moving_of.ensures.moving c.args.bitmap.now m tree lists may.node (c.in-Ok-built_in_indices.ensures.told ∙ c.in-Ok.ensures.told ∙ told) ready
    (subst (λ (k : ℕ). IsNode tree k may.node) (sym of.id) there.0) (λ root. there.1 (sym of.id ∙ root))

pub other_at-requires-clause-ready : goal.other_at-requires-clause-ready
other_at-requires-clause-ready g c m told =
    subst (λ (r : Room). HasReady (geometry_of c.args.sup.now) r m) (sym (c.in-Ok-built_in_indices.ensures.bitmap ∙ c.in-Ok.ensures.bitmap))
    (c.requires.ready m (sym (c.in-Ok-moving_of.ensures.told ∙ c.in-Ok-built_in_indices.ensures.told ∙ c.in-Ok.ensures.told) ∙ told))

pub returns-in-Err-other_at-clause-allowed : goal.returns-in-Err-other_at-clause-allowed
returns-in-Err-other_at-clause-allowed g c m tree lists told ready =
    let may = c.requires.may m tree lists told ready in
    let here = subst (λ (r : Room). IsReady (geometry_of c.args.sup.now) r m tree lists) (sym (c.in-Ok-built_in_indices.ensures.bitmap ∙ c.in-Ok.ensures.bitmap)) ready in
    c.in-Err-other_at.ensures.found m tree lists may.t (c.in-Ok-moving_of.ensures.told ∙ c.in-Ok-built_in_indices.ensures.told ∙ c.in-Ok.ensures.told ∙ told) here may.to_there may.to_kind

pub leaving_of-requires-clause-ready : goal.leaving_of-requires-clause-ready
leaving_of-requires-clause-ready g c m told =
    subst (λ (r : Room). HasReady (geometry_of c.args.sup.now) r m) (sym (c.in-Ok-other_at.ensures.bitmap ∙ c.in-Ok-built_in_indices.ensures.bitmap ∙ c.in-Ok.ensures.bitmap))
    (c.requires.ready m (sym (c.in-Ok-other_at.ensures.told ∙ c.in-Ok-moving_of.ensures.told ∙ c.in-Ok-built_in_indices.ensures.told ∙ c.in-Ok.ensures.told) ∙ told))

pub leaving_of-requires-clause-node : goal.leaving_of-requires-clause-node
leaving_of-requires-clause-node g c m tree lists now after =
    let told = sym (c.in-Ok-other_at.ensures.told ∙ c.in-Ok-moving_of.ensures.told ∙ c.in-Ok-built_in_indices.ensures.told ∙ c.in-Ok.ensures.told) ∙ now in
    let ready = subst (λ (r : Room). IsReady (geometry_of c.args.sup.now) r m tree lists) (c.in-Ok-other_at.ensures.bitmap ∙ c.in-Ok-built_in_indices.ensures.bitmap ∙ c.in-Ok.ensures.bitmap) after in
    let may = c.requires.may m tree lists told ready in
    let here = subst (λ (r : Room). IsReady (geometry_of c.args.sup.now) r m tree lists) (sym (c.in-Ok-built_in_indices.ensures.bitmap ∙ c.in-Ok.ensures.bitmap)) ready in
    proper tree c.in-Ok.child.id c.args.to_dir c.args.to_name.now c.in-Ok-other_at.other
    (c.in-Ok-other_at.ensures.found m tree lists may.t (c.in-Ok-moving_of.ensures.told ∙ c.in-Ok-built_in_indices.ensures.told ∙ c.in-Ok.ensures.told ∙ told) here may.to_there may.to_kind)

pub returns-in-Err-leaving_of-clause-allowed : goal.returns-in-Err-leaving_of-clause-allowed
returns-in-Err-leaving_of-clause-allowed g c m tree lists told ready =
    let may = c.requires.may m tree lists told ready in
    let here = subst (λ (r : Room). IsReady (geometry_of c.args.sup.now) r m tree lists) (sym (c.in-Ok-built_in_indices.ensures.bitmap ∙ c.in-Ok.ensures.bitmap)) ready in
    let told3 = c.in-Ok-moving_of.ensures.told ∙ c.in-Ok-built_in_indices.ensures.told ∙ c.in-Ok.ensures.told ∙ told in
    let of = c.in-Ok-other_at.ensures.found m tree lists may.t told3 here may.to_there may.to_kind in
    c.in-Err-leaving_of.ensures.counted m tree lists (replaced c.in-Ok.child.id (child tree c.args.to_dir c.args.to_name.now)) (c.in-Ok-other_at.ensures.told ∙ told3)
    (subst (λ (r : Room). IsReady (geometry_of c.args.sup.now) r m tree lists) (sym c.in-Ok-other_at.ensures.bitmap) here) (nodes_there tree c.in-Ok.child.id c.args.to_dir c.args.to_name.now) of

pub returns-in-Ok-leaving_of-clause-allowed : goal.returns-in-Ok-leaving_of-clause-allowed
returns-in-Ok-leaving_of-clause-allowed g c m tree lists told ready =
    let s = c.args.sup.now in
    let v = volume_in (geometry_of s) m in
    let name = c.args.to_name.now in
    let may = c.requires.may m tree lists told ready in
    let own = c.in-Ok.ensures.found m tree lists may.d (may.id, may.node) told ready may.there may.dir_kind may.child_is in
    let there = child-there tree c.args.dir c.args.name.now (may.id, may.node) may.child_is in
    let told1 = c.in-Ok.ensures.told ∙ told in
    let built = c.in-Ok-built_in_indices.ensures.found m tree lists told1 (subst (λ (r : Room). IsReady (geometry_of s) r m tree lists) (sym c.in-Ok.ensures.bitmap) ready) in
    let told2 = c.in-Ok-built_in_indices.ensures.told ∙ told1 in
    let moved = c.in-Ok-moving_of.ensures.moving c.args.bitmap.now m tree lists may.node told2 ready (subst (λ (k : ℕ). IsNode tree k may.node) (sym own.id) there.0) (λ root. there.1 (sym own.id ∙ root)) in
    let moving : AreMoving s.block_size (moves v may.id name) c.in-Ok-moving_of.moving = subst (λ (k : ℕ). AreMoving s.block_size (moves v k name) c.in-Ok-moving_of.moving) own.id moved in
    let here = subst (λ (r : Room). IsReady (geometry_of s) r m tree lists) (sym (c.in-Ok-built_in_indices.ensures.bitmap ∙ c.in-Ok.ensures.bitmap)) ready in
    let told3 = c.in-Ok-moving_of.ensures.told ∙ told2 in
    let found = c.in-Ok-other_at.ensures.found m tree lists may.t told3 here may.to_there may.to_kind in
    let of = subst (λ (k : ℕ). AreOf (replaced k (child tree c.args.to_dir name)) c.in-Ok-other_at.other) own.id found in
    let leaving = c.in-Ok-leaving_of.ensures.counted m tree lists (replaced may.id (child tree c.args.to_dir name)) (c.in-Ok-other_at.ensures.told ∙ told3)
    (subst (λ (r : Room). IsReady (geometry_of s) r m tree lists) (sym c.in-Ok-other_at.ensures.bitmap) here) (nodes_there tree may.id c.args.to_dir name) of in
    let rest = c.in-Ok-leaving_of.leaving in
    let move = c.in-Ok-moving_of.moving in
    c.counted.ensures.value
    ∙ ap (λ (k : Kind). 28 * (2 + cond (is_some c.in-Ok-built_in_indices.indices.name) 2 0 + cond (is_dir k) 1 0 + move.count + rest.rows) + move.blocks + min (move.blocks + rest.blocks) c.bitmap_blocks-most.result + 8) own.kind
    ∙ allowed (geometry_of s) c.args.bitmap.now m tree lists ready c.args.dir c.args.name.now c.args.to_dir name may c.in-Ok-built_in_indices.indices built
    c.built_in_count-built.result move.count move.blocks rest.rows rest.blocks c.bitmap_blocks-most.result
    c.built_in_count-built.ensures.value moving.count moving.blocks leaving.rows leaving.blocks c.bitmap_blocks-most.ensures.value

pub returns-in-Ok-leaving_of-clause-within : goal.returns-in-Ok-leaving_of-clause-within
returns-in-Ok-leaving_of-clause-within g c m tree lists told ready =
    let s = c.args.sup.now in
    let may = c.requires.may m tree lists told ready in
    subst (λ (n : ℕ). n ≤ logged_need (volume_in (geometry_of s) m) tree (Rename c.args.dir c.args.name.now c.args.to_dir c.args.to_name.now)) (sym (returns-in-Ok-leaving_of-clause-allowed g c m tree lists told ready))
    (within (geometry_of s) c.args.bitmap.now m tree lists ready c.args.dir c.args.name.now c.args.to_dir c.args.to_name.now may)
