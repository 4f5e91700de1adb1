use Rattle.std.proofs.Common.{◌≤◌, ◌∙◌, ℕ, sym, subst}
use Rattle.bfs_super.specs.Geometry.{geometry_of}
use Rattle.bfs_bitmap.specs.Runs.{Room}
use Rattle.bfs_tree.specs.declared.call.Call.TheVariants.{AttrRemove}
use Rattle.bfs_sound.specs.Need.{logged_need}
use Rattle.bfs_shift.specs.Shifts.{volume_in}
use Rattle.bfs_look.specs.Ready.{IsReady, HasReady}
use Rattle.bfs_unmake.proofs.Faulting.{read_cause, cause_earlier}
use Rattle.bfs_attr_calls.proofs.Allowing.{allowed, within}
use Rattle.bfs_attr_calls.proofs.allowance.remove_attr_allowance.Goals as goal

pub returns-in-Err-clause-allowed : goal.returns-in-Err-clause-allowed
returns-in-Err-clause-allowed g c m tree lists told ready = c.in-Err.ensures.counted m tree lists told ready

pub returns-in-Err-clause-cause : goal.returns-in-Err-clause-cause
returns-in-Err-clause-cause g c = read_cause (g.E.Blocks.counts c.args.edits.now) (g.E.Blocks.counts c.index_count.new.edits) c.in-Err.fault c.in-Err.ensures.cause

pub blocks_left-requires-clause-ready : goal.blocks_left-requires-clause-ready
blocks_left-requires-clause-ready g c m told =
    subst (λ (r : Room). HasReady (geometry_of c.args.sup.now) r m) (sym c.in-Ok.ensures.bitmap) (c.requires.ready m (sym c.in-Ok.ensures.told ∙ told))

pub blocks_left-requires-clause-there : goal.blocks_left-requires-clause-there
blocks_left-requires-clause-there g c m tree lists told ready =
    let there = c.requires.there m tree lists (sym c.in-Ok.ensures.told ∙ told) (subst (λ (r : Room). IsReady (geometry_of c.args.sup.now) r m tree lists) c.in-Ok.ensures.bitmap ready) in
    (there.node, there.there)

pub returns-in-Err-blocks_left-clause-allowed : goal.returns-in-Err-blocks_left-clause-allowed
returns-in-Err-blocks_left-clause-allowed g c m tree lists told ready =
    c.in-Err-blocks_left.ensures.counted m tree lists (c.in-Ok.ensures.told ∙ told) (subst (λ (r : Room). IsReady (geometry_of c.args.sup.now) r m tree lists) (sym c.in-Ok.ensures.bitmap) ready)

pub returns-in-Err-blocks_left-clause-cause : goal.returns-in-Err-blocks_left-clause-cause
returns-in-Err-blocks_left-clause-cause g c =
    let old = g.E.Blocks.counts c.args.edits.now in
    let mid = g.E.Blocks.counts c.index_count.new.edits in
    let new = g.E.Blocks.counts c.blocks_left.new.edits in
    let f = c.in-Err-blocks_left.fault in
    cause_earlier old mid new f c.in-Ok.ensures.later (read_cause mid new f c.in-Err-blocks_left.ensures.cause)

pub returns-clause-allowed : goal.returns-clause-allowed
returns-clause-allowed g c m tree lists told ready =
    let s = geometry_of c.args.sup.now in
    let here : IsReady s c.index_count.new.bitmap m tree lists = subst (λ (r : Room). IsReady s r m tree lists) (sym c.in-Ok.ensures.bitmap) ready in
    allowed (volume_in s m) tree c.args.id c.args.name.now c.in-Ok.listed c.in-Ok-blocks_left.left c.bitmap_blocks-most.result
    (c.in-Ok.ensures.counted m tree lists told ready) c.bitmap_blocks-most.ensures.value (c.in-Ok-blocks_left.ensures.counted m tree lists (c.in-Ok.ensures.told ∙ told) here)

pub returns-clause-within : goal.returns-clause-within
returns-clause-within g c m tree lists told ready =
    let s = geometry_of c.args.sup.now in
    let was = volume_in s m in
    let id = c.args.id in
    let name = c.args.name.now in
    let here : IsReady s c.index_count.new.bitmap m tree lists = subst (λ (r : Room). IsReady s r m tree lists) (sym c.in-Ok.ensures.bitmap) ready in
    let same = allowed was tree id name c.in-Ok.listed c.in-Ok-blocks_left.left c.bitmap_blocks-most.result
    (c.in-Ok.ensures.counted m tree lists told ready) c.bitmap_blocks-most.ensures.value (c.in-Ok-blocks_left.ensures.counted m tree lists (c.in-Ok.ensures.told ∙ told) here) in
    let there = c.requires.there m tree lists told ready in
    subst (λ (n : ℕ). n ≤ logged_need was tree (AttrRemove id name)) (sym same) (within c.args.sup.now c.args.bitmap.now m tree lists id there.node name c.requires.valid ready there.there)
