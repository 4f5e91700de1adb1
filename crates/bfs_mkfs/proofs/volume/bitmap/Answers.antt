use Rattle.std.proofs.Common.{◌-◌, ◌/◌, ◌++◌, ◌∷◌, ◌∙◌}
use Rattle.std.specs.Prelude.{replicate}
use Rattle.bfs_mkfs.specs.Laid.{bitmap_bytes}
use Rattle.bfs_mkfs.proofs.Trees.{ok_map}
use Rattle.bfs_mkfs.proofs.volume.bitmap.Goals as goal

pub returns : goal.returns
unfolding bitmap_bytes
returns c =
    let used = c.args.geometry.used in
    ok_map c.filled.result c.filled.ensures (λ v is. is ∙ (λ i. replicate (used / 8) 255 ++ (c.last_byte.ensures i) ∷ replicate (c.bitmap_length-count.ensures.value i - used / 8 - 1) 0))
