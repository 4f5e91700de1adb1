-- Where the run of one block stands.
use Rattle.std.proofs.Common.{◌≡◌, ◌+◌, ◌*◌, ◌/◌, ◌%◌, ◌∙◌, ℕ, ℤ, pos, ap, ap₂}
use Rattle.std.proofs.Math.Nat.{mul_comm, div-add-mod}
use Rattle.bfs_bytes.specs.declared.Run.{Run}
use Rattle.bfs_super.specs.Conditions.{natural}
use Rattle.bfs_stream.specs.Sizes.{Sizes, first_block}

pub placed : (s : Sizes) (run : Run) (block : ℕ) → run.group ≡ pos (block / s.group_blocks) → run.start ≡ block % s.group_blocks → first_block s run ≡ block
placed s run block group start =
    ap₂ (λ (z : ℤ) (k : ℕ). natural z * s.group_blocks + k) group start ∙ joined
  where
    joined : block / s.group_blocks * s.group_blocks + block % s.group_blocks ≡ block
    joined = ap (λ (k : ℕ). k + block % s.group_blocks) (mul_comm (block / s.group_blocks) s.group_blocks) ∙ div-add-mod block s.group_blocks
