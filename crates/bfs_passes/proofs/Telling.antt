-- What is said of the indices and of the bitmap, told as a fault.
use Rattle.std.proofs.Common.{◌≡◌, ◌⊎◌, inl, inr, ℕ}
use Rattle.bfs_base.specs.Lists.{Has}
use Rattle.bfs_super.specs.declared.sup.Super.{Super}
use Rattle.bfs_tree.specs.Trees.{Tree}
use Rattle.bfs_sound.specs.Volumes.{Volume, IsMarked}
use Rattle.bfs_sound.specs.Owners.{reach}
use Rattle.bfs_sound.specs.Whole.{HasSoundIndices}
use Rattle.bfs_finding.specs.declared.finding.Finding.{Finding}
use Rattle.bfs_finding.specs.declared.finding.Finding.TheVariants.{BitExtra}
use Rattle.bfs_finding.specs.Findings.{IsFindingOf, IsBroken, IsUnlisted, Standing}

module _ (s : Super) (v : Volume) (tree : Tree) (log : s.log_start ≡ s.log_end) (standing : Standing v tree) where
  pub listed_told : (finding : Finding) → IsBroken v finding ⊎ IsUnlisted v tree finding → IsFindingOf s v finding
  listed_told finding (inl broken) = IsFindingOf.in_parts log broken
  listed_told finding (inr unlisted) = IsFindingOf.in_indices log tree standing unlisted

  module _ (indices : HasSoundIndices v tree) where
    pub extra_told : (block : ℕ) → IsMarked v block × ¬ Has (reach v tree) block → IsFindingOf s v (BitExtra block)
    extra_told block h = IsFindingOf.in_bitmap log tree standing indices h
