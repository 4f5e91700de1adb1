use Rattle.std.proofs.Common.{◌≤◌, ℕ, sym, subst}
use Rattle.bfs_super.specs.Geometry.{geometry_of}
use Rattle.bfs_tree.specs.declared.call.Call.TheVariants.{IndexRemove}
use Rattle.bfs_sound.specs.Need.{logged_need}
use Rattle.bfs_shift.specs.Shifts.{volume_in}
use Rattle.bfs_remove_index.proofs.Allowed.{allowed, within}
use Rattle.bfs_remove_index.proofs.allowance.remove_index_allowance.Goals as goal

pub returns-clause-allowed : goal.returns-clause-allowed
returns-clause-allowed g c m tree lists told ready =
    allowed (volume_in (geometry_of c.args.sup.now) m) tree c.args.name.now c.in-Ok.blocks c.bitmap_blocks-most.result c.min.result
    (c.in-Ok.ensures.counted m tree lists told ready) c.bitmap_blocks-most.ensures.value c.min.ensures

pub returns-clause-within : goal.returns-clause-within
returns-clause-within g c m tree lists told ready =
    let was = volume_in (geometry_of c.args.sup.now) m in
    let name = c.args.name.now in
    let same = allowed was tree name c.in-Ok.blocks c.bitmap_blocks-most.result c.min.result (c.in-Ok.ensures.counted m tree lists told ready) c.bitmap_blocks-most.ensures.value c.min.ensures in
    subst (λ (n : ℕ). n ≤ logged_need was tree (IndexRemove name)) (sym same) (within was tree name ready.work.stocked.directory)

pub returns-in-Err-clause-allowed : goal.returns-in-Err-clause-allowed
returns-in-Err-clause-allowed g c m tree lists told ready = c.in-Err.ensures.counted m tree lists told ready
