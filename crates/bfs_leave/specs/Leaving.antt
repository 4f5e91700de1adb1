-- Steps of a call that may give blocks back: what they have kept of a volume and of its tree.
use Rattle.std.specs.Prelude.{◌≡◌, ◌≤◌, ◌⊎◌, ℕ, List, Option, Some, Bool, true, false}
use Rattle.std.specs.FinMap.{remove}
use Rattle.bfs_base.specs.Lists.{times, Has}
use Rattle.bfs_super.specs.declared.geometry.Geometry.{Geometry}
use Rattle.bfs_bitmap.specs.Runs.{Room, is_reserved}
use Rattle.bfs_txn.specs.Told.{StaysChanged}
use Rattle.bfs_stream.specs.Standing.{standing}
use Rattle.bfs_stream.specs.Told.{contents}
use Rattle.bfs_tree.specs.Trees.{Node, Tree, IsNode, is_file}
use Rattle.bfs_sound.specs.Volumes.{IsMarked}
use Rattle.bfs_sound.specs.Inodes.{stream_blocks}
use Rattle.bfs_sound.specs.Owners.{file_data, IsMetadata}
use Rattle.bfs_shift.specs.Lists.{Lists}
use Rattle.bfs_shift.specs.Shifts.{volume_in}
use Rattle.bfs_shift.specs.Work.{IsAtWork, IsFileStill, MayBeWritten}
use Rattle.bfs_moves.specs.Laws.{IsApart}

-- no block that was given back and isn't free yet is marked
abbrev pub IsClear : Geometry → Room → (ℕ → Option (List ℕ)) → Type 0
IsClear g v m = (k : ℕ) → is_reserved v.given k ≡ true → ¬ IsMarked (volume_in g m) k

-- the tree without a node
abbrev pub tree_without : Tree → ℕ → Tree
tree_without tree id = record tree { nodes = remove tree.nodes id }

-- the block is neither block 0 nor one of the log, and was given back since
abbrev pub IsGivenSince : Geometry → Room → Room → ℕ → Type 0
IsGivenSince g v now k = (is_reserved v.given k ≡ false) × (is_reserved now.given k ≡ true) × IsApart g k

-- What steps that may give blocks back have kept of a volume and of its tree, and what they have changed. The bitmap's view is the same
-- but for its tally and for runs that were given back since; these stand behind the others, and have no group's number yet. What was reserved
-- is, and no reserved block is marked. What was marked is, or was given back. Each file is a file of the same size still, on the same blocks,
-- or its inode was given back; no other block is file data, and none that is was written. What was changed may be written, or was given
-- back since. What was changed stays so, and each block that is metadata and was not is changed.
pub record GivesBack (g : Geometry) (v now : Room) (m map : ℕ → Option (List ℕ)) (tree after : Tree) (old new : ℕ → Bool) : Type 0 where
  pub rest : now ≡ record v { given = now.given; tally = now.tally }
  pub standing_is : standing now ≡ standing v
  pub holds : (k : ℕ) → is_reserved v.given k ≡ true → is_reserved now.given k ≡ true
  pub clear : IsClear g now map
  pub marked : (k : ℕ) → IsMarked (volume_in g m) k → IsMarked (volume_in g map) k ⊎ (is_reserved now.given k ≡ true)
  pub files : (id : ℕ) (n : Node) → IsNode tree id n → is_file n.kind ≡ true
      → (IsFileStill after id n × (stream_blocks (volume_in g map) id ≡ stream_blocks (volume_in g m) id)) ⊎ (is_reserved now.given id ≡ true)
  pub no_more : (k : ℕ) → times k (file_data (volume_in g map) after) ≤ times k (file_data (volume_in g m) tree)
  pub left : (k : ℕ) → Has (file_data (volume_in g m) tree) k → Has (file_data (volume_in g map) after) k ⊎ (is_reserved now.given k ≡ true)
  pub bytes : (k : ℕ) → Has (file_data (volume_in g map) after) k → contents map k ≡ contents m k
  pub written : (k : ℕ) → new k ≡ true → (old k ≡ true) ⊎ (MayBeWritten (volume_in g map) after k ⊎ IsGivenSince g v now k)
  pub kept : StaysChanged old new
  pub entered : (k : ℕ) → IsMetadata (volume_in g map) after k → IsMetadata (volume_in g m) tree k ⊎ (new k ≡ true)

-- A step was made that may give blocks back: what is told now is at work with this tree, these lists and these loose blocks.
pub record IsLeft (g : Geometry) (v now : Room) (m : ℕ → Option (List ℕ)) (tree after : Tree) (lists : Lists) (loose : List ℕ) (told : Option (ℕ → Option (List ℕ))) (old new : ℕ → Bool) : Type 0 where
  pub map : ℕ → Option (List ℕ)
  pub is : told ≡ Some map
  pub work : IsAtWork g now map after lists loose
  pub gives : GivesBack g v now m map tree after old new
