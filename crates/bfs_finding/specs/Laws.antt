-- A finding that is true of an image excludes that the image is whole.
use Rattle.std.specs.Prelude.{ℕ, List}
use Rattle.bfs_tree.specs.Trees.{Tree}
use Rattle.bfs_sound.specs.Volumes.{Volume}
use Rattle.bfs_sound.specs.Whole.{IsSound, IsWhole}
use Rattle.bfs_finding.specs.declared.finding.Finding.{Finding}
use Rattle.bfs_finding.specs.Findings.{IsFinding, IsBroken, Standing}

-- a finding that is true of an image excludes that it is whole with any tree
abbrev pub FindingExcludes : Type 0
FindingExcludes = (image : List ℕ) (f : Finding) (tree : Tree) → IsFinding image f → IsWhole image tree → ⊥

-- a finding of a volume's inodes, streams, trees, rows or names excludes that a tree stands on it
abbrev pub BrokenExcludes : Type 0
BrokenExcludes = (v : Volume) (f : Finding) (tree : Tree) → IsBroken v f → Standing v tree → ⊥

-- the tree of a sound volume stands
abbrev pub SoundStands : Type 0
SoundStands = (v : Volume) (tree : Tree) → IsSound v tree → Standing v tree
