use Rattle.std.proofs.Common.{rules, ◌≡◌, ◌≢◌, ◌≤◌, ◌<◌, ◌^◌, ◌∙◌, ℕ, ℤ, [], List, Option, Bool, length, refl, sym, ap, subst, arith}
use mir.Syntax.{w64}
use mir.Val.{to_z, of_z}
use Rattle.std.specs.FinMap.{empty}
use Rattle.bfs_bitmap.specs.Runs.{Room}
use Rattle.bfs_super.specs.Conditions.{natural}
use Rattle.bfs_super.specs.Geometry.{geometry_of}
use Rattle.bfs_tree.specs.Changes.{kind_made}
use Rattle.bfs_tree.specs.Names.{target_of}
use Rattle.bfs_tree.specs.States.{State}
use Rattle.bfs_tree.specs.Trees.{Tree, new_node}
use Rattle.bfs_tree.specs.declared.call.Kind.{Kind}
use Rattle.bfs_look.specs.Ready.{IsReady}
use Rattle.bfs_look.proofs.Known.{dir_is, few_blocks}
use Rattle.bfs_calls.specs.Made.{IsCreated, IsBorn, IsFor, HasEntered, IsMadeIn}
use Rattle.bfs_calls.proofs.Faulting.{undone_unanswered, cause_earlier}
use Rattle.bfs_calls.proofs.Newborn.{not_root, no_child_no_row, born, new_is_for, made_in}
use Rattle.bfs_calls.proofs.Refusing.{may_be, good_short}
use Rattle.bfs_look.proofs.Telling.{told_back, one_map}
use Rattle.bfs_calls.proofs.making.make_node.Goals as goal

pub returns-in-Err-clause-unanswered : goal.returns-in-Err-clause-unanswered
returns-in-Err-clause-unanswered g c m tree lists told ready = undone_unanswered c.in-Err.fault (c.in-Err.ensures.found m tree lists told ready)

pub returns-in-Err-create-clause-unanswered : goal.returns-in-Err-create-clause-unanswered
returns-in-Err-create-clause-unanswered g c m tree lists told ready =
    c.in-Err-create.ensures.unanswered m tree lists (c.in-Ok.ensures.told ∙ told) (subst (λ (v : Room). IsReady (geometry_of c.args.sup.now) v m tree lists) (sym c.in-Ok.ensures.bitmap) ready)

pub returns-in-Err-create-clause-cause : goal.returns-in-Err-create-clause-cause
returns-in-Err-create-clause-cause g c =
    cause_earlier (g.E.Blocks.counts c.args.edits.now) (g.E.Blocks.counts c.built_in_indices.new.edits) (g.E.Blocks.counts c.create.new.edits) c.in-Err-create.fault c.in-Ok.ensures.later c.in-Err-create.ensures.cause

pub enter-requires-clause-short : goal.enter-requires-clause-short
enter-requires-clause-short g c = good_short c.args.name.now c.requires.may.good_name

pub enter-requires-clause-id : goal.enter-requires-clause-id
enter-requires-clause-id g c =
    let low : c.in-Ok-create.id < natural c.args.sup.now.num_blocks = c.in-Ok-create.ensures.inside in
    let few = few_blocks c.args.sup.now c.requires.valid in
    below c.in-Ok-create.id (natural c.args.sup.now.num_blocks) low few
  where
    below : (k n : ℕ) → k < n → n ≤ 2 ^ 62 → k < 2 ^ 62
    below k n low few = omega (arith, low, few)

pub enter-requires-clause-born : goal.enter-requires-clause-born
enter-requires-clause-born g c n told =
    let before =
    told_back (g.E.Blocks.told c.args.edits.now) (g.E.Blocks.told c.create.new.edits) (g.E.Blocks.frame c.args.edits.now).below (g.E.Blocks.frame c.create.new.edits).below
    (g.met.E.Edits.tells c.args.edits.now) (g.met.E.Edits.tells c.create.new.edits) (ap (λ f. f.below) (c.in-Ok-create.ensures.frame ∙ c.in-Ok.ensures.frame)) n told in
    let m = before.0 in
    let h = c.requires.ready m before.1 in
    let s = geometry_of c.args.sup.now in
    let e : to_z w64 (of_z w64 c.args.stamp) ≡ c.args.stamp = search rules in
    let node = (new_node (kind_made c.args.kind.now) c.args.name.now c.args.dir c.args.mode (length (target_of c.args.kind.now)) (target_of c.args.kind.now) c.args.stamp) in
    let ready_here = subst (λ (v : Room). IsReady s v m h.tree h.lists) (sym c.in-Ok.ensures.bitmap) h.ready in
    let created : IsCreated s c.args.bitmap.now c.create.new.bitmap m h.tree h.lists c.in-Ok-create.id c.args.dir (new_node (kind_made c.args.kind.now) c.args.name.now c.args.dir c.args.mode (length (target_of c.args.kind.now)) (target_of c.args.kind.now) c.args.stamp) (g.E.Blocks.told c.create.new.edits) (g.E.Blocks.changed c.args.edits.now) (g.E.Blocks.changed c.create.new.edits) =
    subst (λ (v : Room). IsCreated s v c.create.new.bitmap m h.tree h.lists c.in-Ok-create.id c.args.dir (new_node (kind_made c.args.kind.now) c.args.name.now c.args.dir c.args.mode (length (target_of c.args.kind.now)) (target_of c.args.kind.now) c.args.stamp) (g.E.Blocks.told c.create.new.edits) (g.E.Blocks.changed c.args.edits.now) (g.E.Blocks.changed c.create.new.edits)) c.in-Ok.ensures.bitmap
    (subst (λ (ch : ℕ → Bool). IsCreated s c.built_in_indices.new.bitmap c.create.new.bitmap m h.tree h.lists c.in-Ok-create.id c.args.dir (new_node (kind_made c.args.kind.now) c.args.name.now c.args.dir c.args.mode (length (target_of c.args.kind.now)) (target_of c.args.kind.now) c.args.stamp) (g.E.Blocks.told c.create.new.edits) ch (g.E.Blocks.changed c.create.new.edits)) c.in-Ok.ensures.changed
    (subst (λ (z : ℤ). IsCreated s c.built_in_indices.new.bitmap c.create.new.bitmap m h.tree h.lists c.in-Ok-create.id c.args.dir (new_node (kind_made c.args.kind.now) c.args.name.now c.args.dir c.args.mode (length (target_of c.args.kind.now)) (target_of c.args.kind.now) z) (g.E.Blocks.told c.create.new.edits) (g.E.Blocks.changed c.built_in_indices.new.edits) (g.E.Blocks.changed c.create.new.edits)) e
    (c.in-Ok-create.ensures.created m h.tree h.lists (c.in-Ok.ensures.told ∙ before.1) ready_here))) in
    let st : State = record { tree = h.tree; holds = []; known = empty } in
    let may = may_be st c.args.dir c.args.name.now c.args.kind.now c.args.mode (c.requires.fine m h.tree h.lists st before.1 h.ready refl) in
    let is_dir_kind = dir_is may.0.kind may.2 in
    let free = no_child_no_row c.args.sup.now c.args.bitmap.now m h.tree h.lists h.ready c.args.dir may.0 may.1 is_dir_kind c.args.name.now c.requires.may.good_name may.3 in
    let begun = created.filled.begun in
    let new : IsBorn s c.create.new.bitmap created.filled.step.map h.tree h.lists begun c.args.dir may.0 c.in-Ok-create.id node =
    born c.args.sup.now c.args.bitmap.now m h.tree h.lists h.ready c.requires.valid c.create.new.bitmap c.in-Ok-create.id c.args.dir may.0 node (g.E.Blocks.told c.create.new.edits) (g.E.Blocks.changed c.args.edits.now) (g.E.Blocks.changed c.create.new.edits) created may.1 is_dir_kind free in
    let apart : c.in-Ok-create.id ≢ h.tree.root = λ x. not_root c.args.sup.now c.args.bitmap.now m h.tree h.lists h.ready c.in-Ok-create.id created.absent (x ∙ h.ready.root) in
    let is_for : IsFor h.tree c.in-Ok-create.id node c.kind.result c.args.name.now (to_z w64 (of_z w64 c.args.stamp)) =
    subst (λ (z : ℤ). IsFor h.tree c.in-Ok-create.id node c.kind.result c.args.name.now z) (sym e)
    (subst (λ (k : Kind). IsFor h.tree c.in-Ok-create.id node k c.args.name.now c.args.stamp) (sym c.kind.ensures)
    (new_is_for h.tree c.in-Ok-create.id c.args.kind.now c.args.name.now c.args.dir c.args.mode c.args.stamp apart)) in
    record {
      tree = h.tree;
      lists = h.lists;
      begun = begun;
      d = may.0;
      node = node;
      born = subst (λ (k : ℕ → Option (List ℕ)). IsBorn s c.create.new.bitmap k h.tree h.lists begun c.args.dir may.0 c.in-Ok-create.id node) (one_map (g.E.Blocks.told c.create.new.edits) created.filled.step.map n created.filled.step.is told) new;
      is_for = is_for;
      built_in = c.in-Ok.ensures.found m h.tree h.lists before.1 h.ready;
    }

pub returns-in-Err-enter-clause-unanswered : goal.returns-in-Err-enter-clause-unanswered
returns-in-Err-enter-clause-unanswered g c m tree lists told ready =
    let s = geometry_of c.args.sup.now in
    let e : to_z w64 (of_z w64 c.args.stamp) ≡ c.args.stamp = search rules in
    let node = (new_node (kind_made c.args.kind.now) c.args.name.now c.args.dir c.args.mode (length (target_of c.args.kind.now)) (target_of c.args.kind.now) c.args.stamp) in
    let ready_here = subst (λ (v : Room). IsReady s v m tree lists) (sym c.in-Ok.ensures.bitmap) ready in
    let created : IsCreated s c.args.bitmap.now c.create.new.bitmap m tree lists c.in-Ok-create.id c.args.dir (new_node (kind_made c.args.kind.now) c.args.name.now c.args.dir c.args.mode (length (target_of c.args.kind.now)) (target_of c.args.kind.now) c.args.stamp) (g.E.Blocks.told c.create.new.edits) (g.E.Blocks.changed c.args.edits.now) (g.E.Blocks.changed c.create.new.edits) =
    subst (λ (v : Room). IsCreated s v c.create.new.bitmap m tree lists c.in-Ok-create.id c.args.dir (new_node (kind_made c.args.kind.now) c.args.name.now c.args.dir c.args.mode (length (target_of c.args.kind.now)) (target_of c.args.kind.now) c.args.stamp) (g.E.Blocks.told c.create.new.edits) (g.E.Blocks.changed c.args.edits.now) (g.E.Blocks.changed c.create.new.edits)) c.in-Ok.ensures.bitmap
    (subst (λ (ch : ℕ → Bool). IsCreated s c.built_in_indices.new.bitmap c.create.new.bitmap m tree lists c.in-Ok-create.id c.args.dir (new_node (kind_made c.args.kind.now) c.args.name.now c.args.dir c.args.mode (length (target_of c.args.kind.now)) (target_of c.args.kind.now) c.args.stamp) (g.E.Blocks.told c.create.new.edits) ch (g.E.Blocks.changed c.create.new.edits)) c.in-Ok.ensures.changed
    (subst (λ (z : ℤ). IsCreated s c.built_in_indices.new.bitmap c.create.new.bitmap m tree lists c.in-Ok-create.id c.args.dir (new_node (kind_made c.args.kind.now) c.args.name.now c.args.dir c.args.mode (length (target_of c.args.kind.now)) (target_of c.args.kind.now) z) (g.E.Blocks.told c.create.new.edits) (g.E.Blocks.changed c.built_in_indices.new.edits) (g.E.Blocks.changed c.create.new.edits)) e
    (c.in-Ok-create.ensures.created m tree lists (c.in-Ok.ensures.told ∙ told) ready_here))) in
    let st : State = record { tree = tree; holds = []; known = empty } in
    let may = may_be st c.args.dir c.args.name.now c.args.kind.now c.args.mode (c.requires.fine m tree lists st told ready refl) in
    let is_dir_kind = dir_is may.0.kind may.2 in
    let free = no_child_no_row c.args.sup.now c.args.bitmap.now m tree lists ready c.args.dir may.0 may.1 is_dir_kind c.args.name.now c.requires.may.good_name may.3 in
    let begun = created.filled.begun in
    let new : IsBorn s c.create.new.bitmap created.filled.step.map tree lists begun c.args.dir may.0 c.in-Ok-create.id node =
    born c.args.sup.now c.args.bitmap.now m tree lists ready c.requires.valid c.create.new.bitmap c.in-Ok-create.id c.args.dir may.0 node (g.E.Blocks.told c.create.new.edits) (g.E.Blocks.changed c.args.edits.now) (g.E.Blocks.changed c.create.new.edits) created may.1 is_dir_kind free in
    let apart : c.in-Ok-create.id ≢ tree.root = λ x. not_root c.args.sup.now c.args.bitmap.now m tree lists ready c.in-Ok-create.id created.absent (x ∙ ready.root) in
    let is_for : IsFor tree c.in-Ok-create.id node c.kind.result c.args.name.now (to_z w64 (of_z w64 c.args.stamp)) =
    subst (λ (z : ℤ). IsFor tree c.in-Ok-create.id node c.kind.result c.args.name.now z) (sym e)
    (subst (λ (k : Kind). IsFor tree c.in-Ok-create.id node k c.args.name.now c.args.stamp) (sym c.kind.ensures)
    (new_is_for tree c.in-Ok-create.id c.args.kind.now c.args.name.now c.args.dir c.args.mode c.args.stamp apart)) in
    c.in-Err-enter.ensures.unanswered created.filled.step.map tree lists begun may.0 node created.filled.step.is new is_for (c.in-Ok.ensures.found m tree lists told ready)

pub returns-in-Err-enter-clause-cause : goal.returns-in-Err-enter-clause-cause
returns-in-Err-enter-clause-cause g c =
    cause_earlier (g.E.Blocks.counts c.args.edits.now) (g.E.Blocks.counts c.built_in_indices.new.edits) (g.E.Blocks.counts c.enter.new.edits) c.in-Err-enter.fault c.in-Ok.ensures.later
    (cause_earlier (g.E.Blocks.counts c.built_in_indices.new.edits) (g.E.Blocks.counts c.create.new.edits) (g.E.Blocks.counts c.enter.new.edits) c.in-Err-enter.fault c.in-Ok-create.ensures.later c.in-Err-enter.ensures.cause)

pub returns-in-Ok-enter-clause-made : goal.returns-in-Ok-enter-clause-made
returns-in-Ok-enter-clause-made g c m tree lists state told ready same =
    let ready_at = subst (λ (t : Tree). IsReady (geometry_of c.args.sup.now) c.args.bitmap.now m t lists) (sym same) ready in
    let s = geometry_of c.args.sup.now in
    let e : to_z w64 (of_z w64 c.args.stamp) ≡ c.args.stamp = search rules in
    let node = (new_node (kind_made c.args.kind.now) c.args.name.now c.args.dir c.args.mode (length (target_of c.args.kind.now)) (target_of c.args.kind.now) c.args.stamp) in
    let ready_here = subst (λ (v : Room). IsReady s v m state.tree lists) (sym c.in-Ok.ensures.bitmap) ready_at in
    let created : IsCreated s c.args.bitmap.now c.create.new.bitmap m state.tree lists c.in-Ok-create.id c.args.dir (new_node (kind_made c.args.kind.now) c.args.name.now c.args.dir c.args.mode (length (target_of c.args.kind.now)) (target_of c.args.kind.now) c.args.stamp) (g.E.Blocks.told c.create.new.edits) (g.E.Blocks.changed c.args.edits.now) (g.E.Blocks.changed c.create.new.edits) =
    subst (λ (v : Room). IsCreated s v c.create.new.bitmap m state.tree lists c.in-Ok-create.id c.args.dir (new_node (kind_made c.args.kind.now) c.args.name.now c.args.dir c.args.mode (length (target_of c.args.kind.now)) (target_of c.args.kind.now) c.args.stamp) (g.E.Blocks.told c.create.new.edits) (g.E.Blocks.changed c.args.edits.now) (g.E.Blocks.changed c.create.new.edits)) c.in-Ok.ensures.bitmap
    (subst (λ (ch : ℕ → Bool). IsCreated s c.built_in_indices.new.bitmap c.create.new.bitmap m state.tree lists c.in-Ok-create.id c.args.dir (new_node (kind_made c.args.kind.now) c.args.name.now c.args.dir c.args.mode (length (target_of c.args.kind.now)) (target_of c.args.kind.now) c.args.stamp) (g.E.Blocks.told c.create.new.edits) ch (g.E.Blocks.changed c.create.new.edits)) c.in-Ok.ensures.changed
    (subst (λ (z : ℤ). IsCreated s c.built_in_indices.new.bitmap c.create.new.bitmap m state.tree lists c.in-Ok-create.id c.args.dir (new_node (kind_made c.args.kind.now) c.args.name.now c.args.dir c.args.mode (length (target_of c.args.kind.now)) (target_of c.args.kind.now) z) (g.E.Blocks.told c.create.new.edits) (g.E.Blocks.changed c.built_in_indices.new.edits) (g.E.Blocks.changed c.create.new.edits)) e
    (c.in-Ok-create.ensures.created m state.tree lists (c.in-Ok.ensures.told ∙ told) ready_here))) in
    let st : State = state in
    let may = may_be st c.args.dir c.args.name.now c.args.kind.now c.args.mode (c.requires.fine m state.tree lists st told ready_at refl) in
    let is_dir_kind = dir_is may.0.kind may.2 in
    let free = no_child_no_row c.args.sup.now c.args.bitmap.now m state.tree lists ready_at c.args.dir may.0 may.1 is_dir_kind c.args.name.now c.requires.may.good_name may.3 in
    let begun = created.filled.begun in
    let new : IsBorn s c.create.new.bitmap created.filled.step.map state.tree lists begun c.args.dir may.0 c.in-Ok-create.id node =
    born c.args.sup.now c.args.bitmap.now m state.tree lists ready_at c.requires.valid c.create.new.bitmap c.in-Ok-create.id c.args.dir may.0 node (g.E.Blocks.told c.create.new.edits) (g.E.Blocks.changed c.args.edits.now) (g.E.Blocks.changed c.create.new.edits) created may.1 is_dir_kind free in
    let apart : c.in-Ok-create.id ≢ state.tree.root = λ x. not_root c.args.sup.now c.args.bitmap.now m state.tree lists ready_at c.in-Ok-create.id created.absent (x ∙ ready_at.root) in
    let is_for : IsFor state.tree c.in-Ok-create.id node c.kind.result c.args.name.now (to_z w64 (of_z w64 c.args.stamp)) =
    subst (λ (z : ℤ). IsFor state.tree c.in-Ok-create.id node c.kind.result c.args.name.now z) (sym e)
    (subst (λ (k : Kind). IsFor state.tree c.in-Ok-create.id node k c.args.name.now c.args.stamp) (sym c.kind.ensures)
    (new_is_for state.tree c.in-Ok-create.id c.args.kind.now c.args.name.now c.args.dir c.args.mode c.args.stamp apart)) in
    let entered : HasEntered s c.create.new.bitmap c.enter.new.bitmap created.filled.step.map state.tree lists c.args.dir may.0 c.in-Ok-create.id node c.args.stamp (g.E.Blocks.told c.enter.new.edits) (g.E.Blocks.changed c.create.new.edits) (g.E.Blocks.changed c.enter.new.edits) =
    subst (λ (z : ℤ). HasEntered s c.create.new.bitmap c.enter.new.bitmap created.filled.step.map state.tree lists c.args.dir may.0 c.in-Ok-create.id node z (g.E.Blocks.told c.enter.new.edits) (g.E.Blocks.changed c.create.new.edits) (g.E.Blocks.changed c.enter.new.edits)) e
    (c.in-Ok-enter.ensures.entered created.filled.step.map state.tree lists begun may.0 node created.filled.step.is new is_for (c.in-Ok.ensures.found m state.tree lists told ready_at)) in
    subst (λ (t : Tree). IsMadeIn s c.args.bitmap.now c.enter.new.bitmap m t state c.args.dir c.args.name.now c.args.kind.now c.args.mode c.args.stamp c.in-Ok-create.id (g.E.Blocks.told c.enter.new.edits) (g.E.Blocks.changed c.args.edits.now) (g.E.Blocks.changed c.enter.new.edits)) same
    (made_in s c.args.bitmap.now c.create.new.bitmap c.enter.new.bitmap m state lists c.args.dir may.0 c.args.name.now c.args.kind.now c.args.mode c.args.stamp c.in-Ok-create.id
    (g.E.Blocks.told c.create.new.edits) (g.E.Blocks.told c.enter.new.edits) (g.E.Blocks.changed c.args.edits.now) (g.E.Blocks.changed c.create.new.edits) (g.E.Blocks.changed c.enter.new.edits)
    ready_at.plain ready_at.agrees may.1 is_dir_kind (c.requires.fine m state.tree lists state told ready_at refl) created entered)
