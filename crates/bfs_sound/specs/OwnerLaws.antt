-- The law of owners: what is reached is what each owner has; two owners share nothing; and where a volume agrees at an owner's
-- blocks, the owner stays as it is.
use Rattle.std.specs.Prelude.{◌≡◌, ◌≢◌, ◌≤◌, ℕ, ◌+◌, List, ◌++◌, false, map}
use Rattle.bfs_base.specs.Lists.{times, Has, IsOnce, Agree}
use Rattle.bfs_base.specs.declared.kind.KeyKind.{KeyKind}
use Rattle.bfs_tree.specs.Trees.{Node, Tree, IsNode}
use Rattle.bfs_values.specs.Rows.{rows_in}
use Rattle.bfs_sound.specs.Volumes.{Volume, bitmap_blocks}
use Rattle.bfs_sound.specs.Inodes.{content, IsOwner}
use Rattle.bfs_sound.specs.Nodes.{HasNode}
use Rattle.bfs_sound.specs.Listings.{IsIndex}
use Rattle.bfs_sound.specs.Laws.{changed}
use Rattle.bfs_sound.specs.Owners.{node_blocks, fixed_blocks, reach, Owner, owner_blocks, node_owners, owners, owned, In}

-- What is reached is block 0, the log, the bitmap, and the blocks of each owner.
abbrev pub ReachIsByOwners : Type 0
ReachIsByOwners = (v : Volume) (tree : Tree) → reach v tree ≡ fixed_blocks v ++ (bitmap_blocks v.geometry ++ owned v tree)

-- No number owns twice, owners of different numbers share no block, and no owner's block is block 0, the log's or the bitmap's.
pub record AreApart (v : Volume) (tree : Tree) : Type 0 where
  pub numbers : IsOnce (map (λ (o : Owner). o.0) (owners v tree))
  pub blocks : (a b : Owner) → In a (owners v tree) → In b (owners v tree) → a.0 ≢ b.0 → (k : ℕ) → times k (owner_blocks v a) + times k (owner_blocks v b) ≤ 1
  pub fixed : (a : Owner) → In a (owners v tree) → (k : ℕ) → times k (owner_blocks v a) + times k (fixed_blocks v ++ bitmap_blocks v.geometry) ≤ 1

abbrev pub OwnersAreApart : Type 0
OwnersAreApart = (v : Volume) (tree : Tree) → IsOnce (reach v tree) → AreApart v tree

-- an inode with a stream keeps its format, its bytes and its rows, and is an index still where it was one
pub record StaysStream (v w : Volume) (id : ℕ) : Type 0 where
  pub owner : IsOwner v id → IsOwner w id
  pub bytes : content w id ≡ content v id
  pub rows : (kind : KeyKind) → rows_in kind (content w id) ≡ rows_in kind (content v id)
  pub index : (kind : KeyKind) → IsIndex v id kind → IsIndex w id kind

-- an owner keeps its blocks and the inode's bytes, and unless its inode is all that it has, its stream
pub record StaysOwner (v w : Volume) (o : Owner) : Type 0 where
  pub blocks : owner_blocks w o ≡ owner_blocks v o
  pub inode : w.blocks o.0 ≡ v.blocks o.0
  pub stream : o.1 ≡ false → StaysStream v w o.0

-- a node keeps its record, its owners and their blocks
pub record StaysWhole (v w : Volume) (id : ℕ) (n : Node) : Type 0 where
  pub node : HasNode v id n → HasNode w id n
  pub owners : node_owners w (id, n) ≡ node_owners v (id, n)
  pub blocks : node_blocks w (id, n) ≡ node_blocks v (id, n)

-- Where a volume agrees at the blocks of an owner, the owner stays.
abbrev pub OwnerStays : Type 0
OwnerStays = (v : Volume) (new : ℕ → List ℕ) (used : ℕ) (o : Owner) → Agree v.blocks new (owner_blocks v o) → StaysOwner v (changed v new used) o

-- What stays where one owner changes: every owner of another number, and every node of which it is no owner.
pub record KeepsOthers (v w : Volume) (tree : Tree) (a : Owner) : Type 0 where
  pub owner : (b : Owner) → In b (owners v tree) → b.0 ≢ a.0 → StaysOwner v w b
  pub node : (id : ℕ) (n : Node) → IsNode tree id n → ((o : Owner) → In o (node_owners v (id, n)) → o.0 ≢ a.0) → StaysWhole v w id n

-- A change at the blocks of one owner, and at any block that no owner has, the bitmap's and fresh ones among them, leaves all
-- others as they are, whatever becomes of the count.
abbrev pub OtherOwnersStay : Type 0
OtherOwnersStay = (v : Volume) (tree : Tree) (new : ℕ → List ℕ) (used : ℕ) (a : Owner) → IsOnce (reach v tree) → In a (owners v tree)
    → ((k : ℕ) → Has (owned v tree) k → times k (owner_blocks v a) ≡ 0 → new k ≡ v.blocks k) → KeepsOthers v (changed v new used) tree a
