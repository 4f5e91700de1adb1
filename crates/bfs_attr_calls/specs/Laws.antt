-- What a change of a node's attributes leaves of a volume.
use Rattle.std.specs.Prelude.{◌≡◌, ◌<◌, ℕ, List, Bool, true, Option}
use Rattle.bfs_super.specs.Conditions.{IsValid}
use Rattle.bfs_super.specs.Geometry.{geometry_of}
use Rattle.bfs_super.specs.declared.geometry.Geometry.{Geometry}
use Rattle.bfs_super.specs.declared.sup.Super.{Super}
use Rattle.bfs_bitmap.specs.Runs.{Room, is_reserved}
use Rattle.bfs_txn.specs.Told.{StaysChanged}
use Rattle.bfs_stream.specs.Standing.{standing}
use Rattle.bfs_stream.specs.Told.{contents}
use Rattle.bfs_tree.specs.Trees.{Node, Tree, Attributes, IsNode}
use Rattle.bfs_attr.specs.Bearers.{bearer_of}
use Rattle.bfs_attr.specs.Changed.{Holds, AttributesNow}
use Rattle.bfs_shift.specs.Inodes.{HasBytes}
use Rattle.bfs_shift.specs.Lists.{Lists}
use Rattle.bfs_shift.specs.Work.{IsAtWork}
use Rattle.bfs_unmake.specs.Leaving.{IsClear, IsLeft}
use Rattle.bfs_attr_calls.specs.Attributed.{with_attributes, KeepsName}

-- Where the attributes of a node's inode are others since, its own name is what it was, and no block that was given back is marked, the volume
-- stands for the tree in which the node has them.
abbrev pub AttributesLeave : Type 0
AttributesLeave = (g : Geometry) (v now : Room) (m : ℕ → Option (List ℕ)) (tree : Tree) (lists : Lists) (loose : List ℕ) (id : ℕ) (n : Node) (attributes : Attributes) (told : Option (ℕ → Option (List ℕ))) (old new : ℕ → Bool)
    → 0 < g.block_size → IsAtWork g v m tree lists loose → IsClear g v m → IsNode tree id n
    → now ≡ record v { given = now.given; tally = now.tally } → standing now ≡ standing v → StaysChanged old new
    → (are : AttributesNow (record { id = id; geometry = g }) v now m attributes told old new)
    → HasBytes (contents m id) (contents are.map id) → KeepsName (contents m id) (contents are.map id)
    → ((k : ℕ) → is_reserved v.given k ≡ true → is_reserved now.given k ≡ true) → IsClear g now are.map
    → IsLeft g v now m tree (with_attributes tree id n attributes) lists loose told old new

-- The attributes of a node of a volume at work stand and are held: what the calls on them ask.
abbrev pub NodeHolds : Type 0
NodeHolds = (s : Super) (v : Room) (m : ℕ → Option (List ℕ)) (tree : Tree) (lists : Lists) (loose : List ℕ) (id : ℕ) (n : Node) → IsValid s → IsAtWork (geometry_of s) v m tree lists loose → IsNode tree id n
    → Holds (bearer_of id s) v m
