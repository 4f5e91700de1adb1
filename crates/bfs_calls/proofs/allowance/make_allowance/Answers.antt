use Rattle.std.proofs.Common.{◌≤◌, ℕ, sym, subst}
use Rattle.bfs_super.specs.Geometry.{geometry_of}
use Rattle.bfs_tree.specs.declared.call.Call.TheVariants.{Make}
use Rattle.bfs_sound.specs.Need.{logged_need}
use Rattle.bfs_shift.specs.Shifts.{volume_in}
use Rattle.bfs_shift.proofs.Basics.{most_bytes}
use Rattle.bfs_calls.proofs.Allowed.{allowed, within}
use Rattle.bfs_calls.proofs.allowance.make_allowance.Goals as goal

pub returns-clause-allowed : goal.returns-clause-allowed
returns-clause-allowed g c m tree lists dir name mode told ready =
    allowed (geometry_of c.args.sup.now) c.args.bitmap.now m tree lists ready c.in-Ok.indices (c.in-Ok.ensures.found m tree lists told ready) dir name c.args.kind.now mode c.one.result c.one-2.result c.one-3.result
    c.target_blocks-blocks.result c.bitmap_blocks-most.result c.min.result c.one.ensures.value c.one-2.ensures.value c.one-3.ensures.value c.target_blocks-blocks.ensures.value c.bitmap_blocks-most.ensures.value c.min.ensures

pub returns-clause-within : goal.returns-clause-within
returns-clause-within g c m tree lists dir d name mode told ready there is =
    let same =
    allowed (geometry_of c.args.sup.now) c.args.bitmap.now m tree lists ready c.in-Ok.indices (c.in-Ok.ensures.found m tree lists told ready) dir name c.args.kind.now mode c.one.result c.one-2.result c.one-3.result
    c.target_blocks-blocks.result c.bitmap_blocks-most.result c.min.result c.one.ensures.value c.one-2.ensures.value c.one-3.ensures.value c.target_blocks-blocks.ensures.value c.bitmap_blocks-most.ensures.value c.min.ensures in
    subst (λ (n : ℕ). n ≤ logged_need (volume_in (geometry_of c.args.sup.now) m) tree (Make dir name c.args.kind.now mode)) (sym same) (within (geometry_of c.args.sup.now) c.args.bitmap.now m tree lists ready dir d name c.args.kind.now mode there is)

pub returns-in-Err-clause-allowed : goal.returns-in-Err-clause-allowed
returns-in-Err-clause-allowed g c m tree lists dir name mode told ready = c.in-Err.ensures.found m tree lists told ready

pub target_blocks-blocks-requires-clause-few : goal.target_blocks-blocks-requires-clause-few
target_blocks-blocks-requires-clause-few g c = most_bytes c.args.sup.now c.requires.valid
