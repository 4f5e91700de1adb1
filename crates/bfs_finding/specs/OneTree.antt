-- What a volume determines.
use Rattle.std.specs.Prelude.{◌≡◌, List, ℕ}
use Rattle.bfs_tree.specs.Trees.{Tree}
use Rattle.bfs_sound.specs.Volumes.{Volume}
use Rattle.bfs_sound.specs.Whole.{HasSoundNodes, IsSound, IsWhole, Recovers}

-- At most one tree stands on a volume with plain nodes, whatever its indices list, its bitmap marks and its superblock counts.
abbrev pub StandingTreeIsOne : Type 0
StandingTreeIsOne = (v : Volume) (one other : Tree) → HasSoundNodes v one → HasSoundNodes v other → one ≡ other

-- a volume is sound with at most one tree
abbrev pub SoundTreeIsOne : Type 0
SoundTreeIsOne = (v : Volume) (one other : Tree) → IsSound v one → IsSound v other → one ≡ other

-- At most one tree is whole with an image.
abbrev pub TreeIsOne : Type 0
TreeIsOne = (image : List ℕ) (one other : Tree) → IsWhole image one → IsWhole image other → one ≡ other

-- an image recovers to at most one tree
abbrev pub RecoveredTreeIsOne : Type 0
RecoveredTreeIsOne = (image : List ℕ) (one other : Tree) → Recovers image one → Recovers image other → one ≡ other
