-- A volume within a call: sound but for what the directories and indices list.
use Rattle.std.specs.Prelude.{◌≡◌, ◌<◌, ◌↔◌, ◌⊎◌, ℕ, ℤ, ◌^◌, List, ◌++◌, Some}
use Rattle.bfs_base.specs.Lists.{times, Has, IsOnce}
use Rattle.bfs_base.specs.declared.kind.KeyKind.{KeyKind}
use Rattle.bfs_base.specs.declared.kind.KeyKind.TheVariants.{Text}
use Rattle.bfs_bytes.specs.Fields.{unsigned_at}
use Rattle.bfs_super.specs.Conditions.{natural}
use Rattle.bfs_pages.specs.Maps.{assoc}
use Rattle.bfs_tree.specs.declared.call.Kind.TheVariants.{Dir}
use Rattle.bfs_tree.specs.Trees.{Node, Tree, IsNode}
use Rattle.bfs_values.specs.Rows.{rows_in}
use Rattle.bfs_values.specs.Reached.{AreWritten}
use Rattle.bfs_sound.specs.Volumes.{Volume, bitmap_blocks, IsMarked}
use Rattle.bfs_sound.specs.Inodes.{content, index_directory}
use Rattle.bfs_sound.specs.Nodes.{HasNode}
use Rattle.bfs_sound.specs.Listings.{IsIndex, HasIndexDirectory, index_rows}
use Rattle.bfs_sound.specs.Owners.{reach}
use Rattle.bfs_sound.specs.Laws.{with_blocks}
use Rattle.bfs_shift.specs.Lists.{Lists}

-- an index of this kind stands in the stream of the inode, and these are its pairs
pub record IsListing (v : Volume) (id : ℕ) (kind : KeyKind) (pairs : List (List ℕ × ℕ)) : Type 0 where
  pub index : IsIndex v id kind
  pub written : AreWritten (content v id) (rows_in kind (content v id)) pairs

-- Each node of the tree has its record, which need not fit the others; each directory has the rows of the lists, and so has
-- the index directory, where there is one, each of whose rows names an index with the pairs of the lists; and what is reached, with
-- some loose blocks, is what is marked, and no block of it is there twice. Of the tree, its nodes alone are read, and nothing of
-- the count of used blocks.
pub record Stocked (v : Volume) (tree : Tree) (lists : Lists) (loose : List ℕ) : Type 0 where
  pub nodes : (id : ℕ) (n : Node) → IsNode tree id n → HasNode v id n
  pub rows : (id : ℕ) (n : Node) → IsNode tree id n → n.kind ≡ Dir → rows_in Text (content v id) ≡ lists.rows id
  pub directory : HasIndexDirectory v (index_directory v)
  pub names : index_rows v ≡ lists.names
  pub indices : (name : List ℕ) (value : ℤ) → assoc Text lists.names name ≡ Some value
      → IsListing v (natural value) (lists.kinds name) (lists.pairs name)
  pub once : IsOnce (reach v tree ++ loose)
  pub marks : (k : ℕ) → IsMarked v k ↔ Has (reach v tree ++ loose) k

-- The blocks of an owner change from the first list to the second: but for them and the bitmap nothing changes; what is in the
-- second list and not in the first was not marked; and the marks are the same but for what came and what went.
pub record Shifts (v : Volume) (new : ℕ → List ℕ) (xs ys : List ℕ) : Type 0 where
  pub stays : (k : ℕ) → times k xs ≡ 0 → times k ys ≡ 0 → times k (bitmap_blocks v.geometry) ≡ 0 → new k ≡ v.blocks k
  pub once : IsOnce ys
  pub fresh : (k : ℕ) → Has ys k → times k xs ≡ 0 → ¬ IsMarked v k
  pub marks : (k : ℕ) → IsMarked (with_blocks v new) k ↔ (Has ys k ⊎ (IsMarked v k × (times k xs ≡ 0)))

-- The numbers of an inode's mode and flags take four bytes, as they do wherever the block holds bytes.
pub record HasWords (block : List ℕ) : Type 0 where
  pub mode : unsigned_at 4 block 20 < 2 ^ 32
  pub flags : unsigned_at 4 block 24 < 2 ^ 32
