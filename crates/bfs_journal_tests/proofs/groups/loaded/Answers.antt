use Rattle.std.proofs.Common.{◌≡◌, ◌∙◌, ◌*◌, ◌/◌, ◌≤◌, ℕ, ap, arith}
use Rattle.bfs_super.specs.declared.geometry.Geometry.{Geometry}
use Rattle.bfs_device.specs.Layouts.{layout_of}
use Rattle.bfs_device.proofs.Sizes.{volume_small}
use Rattle.bfs_journal_tests.proofs.groups.loaded.Goals as goal

pub overflow_mul-needed : goal.overflow_mul-needed
overflow_mul-needed g c =
    let geometry = c.geometry-geometry.result in
    let small : (layout_of c.args.sup).sectors * (layout_of c.args.sup).blocks ≤ 67108864 = volume_small c.args.sup c.requires.valid in
    let same : c.from.result * geometry.blocks ≡ (layout_of c.args.sup).sectors * (layout_of c.args.sup).blocks =
    ap (λ (n : ℕ). n * geometry.blocks) c.from.ensures ∙ ap (λ (x : Geometry). x.block_size / 512 * x.blocks) c.geometry-geometry.ensures in
    omega (arith, small, same)
