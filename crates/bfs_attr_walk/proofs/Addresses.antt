-- The address of an attribute directory in an inode.
use Rattle.std.proofs.Common.{◌≡◌, ◌≤◌, ◌∙◌, ℕ, ℤ, List, false, sym, ap, subst}
use Rattle.bfs_bytes.specs.Fields.{run_in}
use Rattle.bfs_bytes.specs.declared.Run.{Run}
use Rattle.bfs_super.specs.Conditions.{IsValid, natural, group_blocks}
use Rattle.bfs_super.specs.declared.sup.Super.{Super}
use Rattle.bfs_stream.specs.Sizes.{sizes_of}
use Rattle.bfs_stream.proofs.Sized.{valid_sizes}
use Rattle.bfs_sound.specs.Attributes.{is_zero}
use Rattle.bfs_sound.specs.Whole.{volume_of}
use Rattle.bfs_finding.specs.Findings.{IsBroken}
use Rattle.bfs_finding.specs.StreamFaults.{IsAddressFault, of_address}
use Rattle.bfs_finding.specs.Ways.{IsReached}
use Rattle.bfs_finding.specs.declared.finding.Finding.TheVariants as finds
use Rattle.bfs_inode_walk.proofs.Blocks as blocks

pub few_blocks : (s : Super) → IsValid s → natural s.num_blocks ≤ 4194304
few_blocks s valid = (valid_sizes s valid).few_blocks

pub few_in_group : (s : Super) → IsValid s → group_blocks s ≤ 65536
few_in_group s valid = (valid_sizes s valid).few_group

pub small_shift : (s : Super) → IsValid s → natural s.ag_shift ≤ 16
small_shift s valid = blocks.small_shift s valid

module _ (s : Super) (bs : ℕ → List ℕ) (id : ℕ) (bytes : List ℕ) (run : Run) (same : bs id ≡ bytes) (run_is : run ≡ run_in bytes 52) where
  there : run_in (bs id) 52 ≡ run
  there = ap (λ (l : List ℕ). run_in l 52) same ∙ sym run_is

  pub wrong_there : (found wanted : ℤ) → is_zero run ≡ false → IsReached (volume_of s bs) id → IsAddressFault (sizes_of s) run found wanted → IsBroken (volume_of s bs) (finds.Stream id found wanted)
  wrong_there found wanted e reached fault =
      of_address reached (subst (λ (r : Run). is_zero r ≡ false) (sym there) e) (subst (λ (r : Run). IsAddressFault (sizes_of s) r found wanted) (sym there) fault)
