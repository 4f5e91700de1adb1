-- Inodes in their places, and which of them has a block.
use Rattle.std.specs.Prelude.{◌≡◌, ◌<◌, ℕ, List, Option, Some, None}
use Rattle.std.specs.List.{AllByRecursion, flat_map}
use Rattle.bfs_base.specs.Lists.{times, Has}
use Rattle.bfs_sound.specs.Volumes.{Volume}
use Rattle.bfs_sound.specs.Owners.{In}
use Rattle.bfs_finding.specs.Ways.{Way, Arrives}
use Rattle.bfs_node_check.specs.Roles.{role_of}
use Rattle.bfs_inode_walk.specs.Visited.{role_blocks}
use Rattle.bfs_owner.specs.declared.place.Place.{Place}

-- a way leads to the inode, and gives it its place
abbrev pub IsPlaced : Volume → Place → Type 0
IsPlaced v p = (way : Way) × (role_of way ≡ Some p.role) × Arrives v way p.id

abbrev pub ArePlaced : Volume → List Place → Type 0
ArePlaced v places = AllByRecursion (IsPlaced v) places

-- each inode is a block of a volume of so many
abbrev pub AreInside : ℕ → List Place → Type 0
AreInside blocks places = AllByRecursion (λ (p : Place). p.id < blocks) places

-- the blocks of an inode in its place, and those of some
abbrev pub blocks_at : Volume → Place → List ℕ
blocks_at v p = role_blocks v p.role p.id

abbrev pub blocks_of_places : Volume → List Place → List ℕ
blocks_of_places v places = flat_map (blocks_at v) places

-- this one of some inodes has the block, or none has it
abbrev pub IsFound : Volume → List Place → ℕ → Option Place → Type 0
IsFound v places block (Some p) = In p places × Has (blocks_at v p) block
IsFound v places block None = times block (blocks_of_places v places) ≡ 0
