use Rattle.std.proofs.Common.{◌≡◌, ap, arith}
use Rattle.bfs_super.specs.declared.geometry.Geometry.{Geometry}
use Rattle.bfs_shift.proofs.Basics.{most_bytes}
use Rattle.bfs_calls.proofs.allowance.bitmap_blocks.Goals as goal

pub parts-requires-clause-short : goal.parts-requires-clause-short
parts-requires-clause-short c =
    let few = most_bytes c.args.sup.now c.requires in
    let size : c.geometry-geometry.result.block_size ≡ c.args.sup.now.block_size = ap (λ (g : Geometry). g.block_size) c.geometry-geometry.ensures in
    let from : c.from.result ≡ c.geometry-geometry.result.block_size = c.from.ensures in
    omega (arith, few, size, from)
