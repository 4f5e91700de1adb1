use Rattle.std.proofs.Common.{◌≡◌, ◌*◌, ◌∙◌, ℕ, ap, arith}
use Rattle.bfs_super.specs.declared.geometry.Geometry.{Geometry}
use Rattle.bfs_log.specs.Replay.{block_sectors}
use Rattle.bfs_replay.specs.Steps.{sectors_of}
use Rattle.bfs_replay.proofs.Sizes.{volume_small}
use Rattle.bfs_replay.proofs.recovery.volume_sectors.Goals as goal

pub overflow_mul-result : goal.overflow_mul-result
overflow_mul-result c =
    let s = c.args.sup.now in
    let same : c.from.result * c.geometry.result.blocks ≡ sectors_of s = ap (λ (n : ℕ). n * c.geometry.result.blocks) c.from.ensures ∙ ap (λ (q : Geometry). block_sectors s * q.blocks) c.geometry.ensures in
    omega (arith, volume_small s c.requires, same)
