use Rattle.std.proofs.Common.{◌≤◌, ◌∙◌, ℕ, sym, subst}
use Rattle.bfs_bitmap.specs.Runs.{Room}
use Rattle.bfs_super.specs.Geometry.{geometry_of}
use Rattle.bfs_tree.specs.declared.call.Call.TheVariants.{Remove}
use Rattle.bfs_sound.specs.Need.{logged_need}
use Rattle.bfs_shift.specs.Shifts.{volume_in}
use Rattle.bfs_look.specs.Ready.{IsReady, HasReady}
use Rattle.bfs_remove_node.proofs.Allowing.{allowed, within}
use Rattle.bfs_remove_node.proofs.Gone.{node_in, node_there}
use Rattle.bfs_remove_node.proofs.allowance.remove_allowance.Goals as goal

pub returns-in-Err-clause-allowed : goal.returns-in-Err-clause-allowed
returns-in-Err-clause-allowed g c m tree lists told ready = c.in-Err.ensures.undone m tree lists told ready (c.requires.may m tree lists told ready)

pub built_in_indices-requires-clause-ready : goal.built_in_indices-requires-clause-ready
built_in_indices-requires-clause-ready g c m told =
    subst (λ (r : Room). HasReady (geometry_of c.args.sup.now) r m) (sym c.in-Ok.ensures.bitmap) (c.requires.ready m (sym c.in-Ok.ensures.told ∙ told))

pub attribute_indices-requires-clause-ready : goal.attribute_indices-requires-clause-ready
attribute_indices-requires-clause-ready g c m told =
    subst (λ (r : Room). HasReady (geometry_of c.args.sup.now) r m) (sym (c.in-Ok-built_in_indices.ensures.bitmap ∙ c.in-Ok.ensures.bitmap))
    (c.requires.ready m (sym (c.in-Ok-built_in_indices.ensures.told ∙ c.in-Ok.ensures.told) ∙ told))

pub node_streams-requires-clause-node : goal.node_streams-requires-clause-node
node_streams-requires-clause-node g c m now =
    let told = sym (c.in-Ok-attribute_indices.ensures.told ∙ c.in-Ok-built_in_indices.ensures.told ∙ c.in-Ok.ensures.told) ∙ now in
    let h = c.requires.ready m told in
    let may = c.requires.may m h.tree h.lists told h.ready in
    (c.args.bitmap.now, node_in c.args.sup.now c.args.bitmap.now m h.tree h.lists h.ready c.requires.valid c.args.dir c.args.name.now may c.in-Ok.id (c.in-Ok.ensures.found m h.tree h.lists told h.ready may))

pub returns-in-Err-built_in_indices-clause-allowed : goal.returns-in-Err-built_in_indices-clause-allowed
returns-in-Err-built_in_indices-clause-allowed g c m tree lists told ready =
    c.in-Err-built_in_indices.ensures.found m tree lists (c.in-Ok.ensures.told ∙ told) (subst (λ (r : Room). IsReady (geometry_of c.args.sup.now) r m tree lists) (sym c.in-Ok.ensures.bitmap) ready)

pub returns-in-Err-attribute_indices-clause-allowed : goal.returns-in-Err-attribute_indices-clause-allowed
returns-in-Err-attribute_indices-clause-allowed g c m tree lists told ready =
    let s = c.args.sup.now in
    let v = c.args.bitmap.now in
    let may = c.requires.may m tree lists told ready in
    let at = c.in-Ok.ensures.found m tree lists told ready may in
    let there = node_there s v m tree lists ready c.requires.valid c.args.dir c.args.name.now may c.in-Ok.id at in
    let here = subst (λ (r : Room). IsReady (geometry_of s) r m tree lists) (sym (c.in-Ok-built_in_indices.ensures.bitmap ∙ c.in-Ok.ensures.bitmap)) ready in
    c.in-Err-attribute_indices.ensures.counted m tree lists at.0 (c.in-Ok-built_in_indices.ensures.told ∙ c.in-Ok.ensures.told ∙ told) here there

pub returns-in-Err-node_streams-clause-allowed : goal.returns-in-Err-node_streams-clause-allowed
returns-in-Err-node_streams-clause-allowed g c m tree lists told ready =
    let s = c.args.sup.now in
    let v = c.args.bitmap.now in
    let may = c.requires.may m tree lists told ready in
    let at = c.in-Ok.ensures.found m tree lists told ready may in
    let there = node_there s v m tree lists ready c.requires.valid c.args.dir c.args.name.now may c.in-Ok.id at in
    c.in-Err-node_streams.ensures.counted m v tree lists at.0 (c.in-Ok-attribute_indices.ensures.told ∙ c.in-Ok-built_in_indices.ensures.told ∙ c.in-Ok.ensures.told ∙ told) ready there

pub returns-clause-allowed : goal.returns-clause-allowed
returns-clause-allowed g c m tree lists told ready =
    let s = c.args.sup.now in
    let v = c.args.bitmap.now in
    let may = c.requires.may m tree lists told ready in
    let at = c.in-Ok.ensures.found m tree lists told ready may in
    let there = node_there s v m tree lists ready c.requires.valid c.args.dir c.args.name.now may c.in-Ok.id at in
    let built = c.in-Ok-built_in_indices.ensures.found m tree lists (c.in-Ok.ensures.told ∙ told) (subst (λ (r : Room). IsReady (geometry_of s) r m tree lists) (sym c.in-Ok.ensures.bitmap) ready) in
    let here = subst (λ (r : Room). IsReady (geometry_of s) r m tree lists) (sym (c.in-Ok-built_in_indices.ensures.bitmap ∙ c.in-Ok.ensures.bitmap)) ready in
    let same =
    allowed (geometry_of s) v m tree lists ready c.args.dir c.args.name.now may c.in-Ok.id at c.in-Ok-built_in_indices.indices built c.built_in_count.result c.in-Ok-attribute_indices.listed c.in-Ok-node_streams.left c.bitmap_blocks-most.result
    c.built_in_count.ensures.value (c.in-Ok-attribute_indices.ensures.counted m tree lists at.0 (c.in-Ok-built_in_indices.ensures.told ∙ c.in-Ok.ensures.told ∙ told) here there)
    c.bitmap_blocks-most.ensures.value
    (c.in-Ok-node_streams.ensures.counted m v tree lists at.0 (c.in-Ok-attribute_indices.ensures.told ∙ c.in-Ok-built_in_indices.ensures.told ∙ c.in-Ok.ensures.told ∙ told) ready there) in
    same

pub returns-clause-within : goal.returns-clause-within
returns-clause-within g c m tree lists told ready =
    let s = c.args.sup.now in
    let v = c.args.bitmap.now in
    let may = c.requires.may m tree lists told ready in
    let at = c.in-Ok.ensures.found m tree lists told ready may in
    let there = node_there s v m tree lists ready c.requires.valid c.args.dir c.args.name.now may c.in-Ok.id at in
    let built = c.in-Ok-built_in_indices.ensures.found m tree lists (c.in-Ok.ensures.told ∙ told) (subst (λ (r : Room). IsReady (geometry_of s) r m tree lists) (sym c.in-Ok.ensures.bitmap) ready) in
    let here = subst (λ (r : Room). IsReady (geometry_of s) r m tree lists) (sym (c.in-Ok-built_in_indices.ensures.bitmap ∙ c.in-Ok.ensures.bitmap)) ready in
    let same =
    allowed (geometry_of s) v m tree lists ready c.args.dir c.args.name.now may c.in-Ok.id at c.in-Ok-built_in_indices.indices built c.built_in_count.result c.in-Ok-attribute_indices.listed c.in-Ok-node_streams.left c.bitmap_blocks-most.result
    c.built_in_count.ensures.value (c.in-Ok-attribute_indices.ensures.counted m tree lists at.0 (c.in-Ok-built_in_indices.ensures.told ∙ c.in-Ok.ensures.told ∙ told) here there)
    c.bitmap_blocks-most.ensures.value
    (c.in-Ok-node_streams.ensures.counted m v tree lists at.0 (c.in-Ok-attribute_indices.ensures.told ∙ c.in-Ok-built_in_indices.ensures.told ∙ c.in-Ok.ensures.told ∙ told) ready there) in
    subst (λ (n : ℕ). n ≤ logged_need (volume_in (geometry_of s) m) tree (Remove c.args.dir c.args.name.now)) (sym same) (within (geometry_of s) v m tree lists ready c.args.dir c.args.name.now may c.in-Ok.id at)
