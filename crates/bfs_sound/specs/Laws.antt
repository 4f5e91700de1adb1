-- What is true of sound volumes, whatever keeps them.
use Rattle.std.specs.Prelude.{◌≡◌, ◌≢◌, ◌<◌, ◌↔◌, ℕ, List}
use Rattle.bfs_base.specs.Lists.{times, ChangesAt}
use Rattle.bfs_super.specs.Geometry.{geometry_of}
use Rattle.bfs_super.specs.declared.sup.Super.{Super}
use Rattle.bfs_log.specs.Replay.{super_of, blocks_of, Valid}
use Rattle.bfs_tree.specs.Trees.{Node, Tree, IsNode}
use Rattle.bfs_sound.specs.Nodes.{HasNode}
use Rattle.bfs_sound.specs.Volumes.{Volume, IsMarked}
use Rattle.bfs_sound.specs.Owners.{node_blocks, fixed_blocks, reach, IsMetadata}
use Rattle.bfs_sound.specs.Whole.{HasSoundNodes, HasSoundIndices, volume_of, IsVolume, Whole, IsWhole, IsSound}

-- Two superblocks with blocks have the same geometry, log run, root, indices and used blocks, and agree at every block that
-- is metadata, but for block 0 and the log.
pub record SameMetadata (s t : Super) (old new : ℕ → List ℕ) (tree : Tree) : Type 0 where
  pub fields : geometry_of t ≡ geometry_of s
  pub blocks : (k : ℕ) → IsMetadata (volume_of s old) tree k → times k (fixed_blocks (volume_of s old)) ≡ 0 → new k ≡ old k

-- the law across equal metadata: where one is whole and the other is valid with an empty log, it is whole with the same tree
abbrev pub WholeIsCarried : Type 0
WholeIsCarried = (s t : Super) (old new : ℕ → List ℕ) (tree : Tree) → Whole s old tree → IsVolume t new → t.log_start ≡ t.log_end → SameMetadata s t old new tree → Whole t new tree

abbrev pub ImageIsCarried : Type 0
ImageIsCarried = (old new : List ℕ) (tree : Tree) → IsWhole old tree → Valid new → (super_of new).log_start ≡ (super_of new).log_end
    → SameMetadata (super_of old) (super_of new) (blocks_of old) (blocks_of new) tree → IsWhole new tree

-- the volume with other blocks
abbrev pub with_blocks : Volume → (ℕ → List ℕ) → Volume
with_blocks v new = record v { blocks = new }

-- the volume with other blocks and another count of used blocks
abbrev pub changed : Volume → (ℕ → List ℕ) → ℕ → Volume
changed v new used = record { geometry = record v.geometry { used = used }; blocks = new }

-- What is carried from a volume to another, part by part: the nodes are sound, and so are the indices where they were; the same
-- blocks are reached, the same of them are metadata, and the same bits are set.
pub record IsCarried (v w : Volume) (tree : Tree) : Type 0 where
  pub nodes : HasSoundNodes w tree
  pub indices : HasSoundIndices v tree → HasSoundIndices w tree
  pub reached : reach w tree ≡ reach v tree
  pub metadata : (k : ℕ) → IsMetadata w tree k ↔ IsMetadata v tree k
  pub bits : (k : ℕ) → IsMarked w k ↔ IsMarked v k

-- Where a volume agrees with one of sound nodes at every metadata block, but for block 0 and those of the log, all this is
-- carried to it, whatever becomes of the count.
abbrev pub PartsAreCarried : Type 0
PartsAreCarried = (v : Volume) (new : ℕ → List ℕ) (used : ℕ) (tree : Tree) → HasSoundNodes v tree → 0 < v.geometry.block_size
    → ((k : ℕ) → IsMetadata v tree k → times k (fixed_blocks v) ≡ 0 → new k ≡ v.blocks k) → IsCarried v (changed v new used) tree

-- a node keeps its record and its blocks
pub record StaysNode (v : Volume) (new : ℕ → List ℕ) (id : ℕ) (n : Node) : Type 0 where
  pub node : HasNode (with_blocks v new) id n
  pub blocks : node_blocks (with_blocks v new) (id, n) ≡ node_blocks v (id, n)

-- The parts of a sound volume are apart: a change of the blocks of one node leaves every other node.
abbrev pub OthersStay : Type 0
OthersStay = (v : Volume) (tree : Tree) (new : ℕ → List ℕ) (a b : ℕ) (m n : Node) → IsSound v tree → IsNode tree a m → IsNode tree b n → a ≢ b
    → ChangesAt v.blocks new (node_blocks v (a, m)) → StaysNode v new b n
