-- When an image is valid.
use Rattle.std.proofs.Common.{◌≡◌, ◌≤◌, ◌*◌, ℕ, List, length, subst, sym}
use Rattle.bfs_super.specs.Conditions.{natural, IsValid}
use Rattle.bfs_super.specs.declared.sup.Super.{Super}
use Rattle.bfs_log.specs.Replay.{Valid, super_of}

-- its superblock is this one, which meets its conditions, and it has two sectors and the blocks that this counts
pub valid_by : (image : List ℕ) (s : Super) → super_of image ≡ s → IsValid s → 512 * 2 ≤ length image → natural s.num_blocks * s.block_size ≤ length image → Valid image
valid_by image s is valid two fits = record {
  sectors = two;
  super = subst IsValid (sym is) valid;
  blocks = subst (λ (t : Super). natural t.num_blocks * t.block_size ≤ length image) (sym is) fits;
}
