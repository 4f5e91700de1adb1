-- Steps of a call that gives a file another size: what they have kept of a volume and of its tree.
use Rattle.std.specs.Prelude.{◌≡◌, ◌≢◌, ◌⊎◌, ℕ, List, ◌++◌, Option, Some, Bool, true, false}
use Rattle.bfs_base.specs.Lists.{Has}
use Rattle.bfs_super.specs.declared.geometry.Geometry.{Geometry}
use Rattle.bfs_bitmap.specs.Runs.{Room, is_reserved}
use Rattle.bfs_txn.specs.Told.{StaysChanged}
use Rattle.bfs_stream.specs.Standing.{standing}
use Rattle.bfs_stream.specs.Told.{contents}
use Rattle.bfs_tree.specs.Trees.{Node, Tree, IsNode, is_file}
use Rattle.bfs_sound.specs.Volumes.{IsMarked}
use Rattle.bfs_sound.specs.Inodes.{stream_blocks}
use Rattle.bfs_sound.specs.Owners.{file_data, IsMetadata}
use Rattle.bfs_shift.specs.Lists.{Lists}
use Rattle.bfs_shift.specs.Shifts.{volume_in}
use Rattle.bfs_shift.specs.Work.{IsAtWork, IsFileStill, MayBeWritten}
use Rattle.bfs_leave.specs.Leaving.{IsClear, IsGivenSince}

-- the second list begins with the first
abbrev pub Begins : List ℕ → List ℕ → Type 0
Begins xs ys = (more : List ℕ) × (ys ≡ xs ++ more)

-- the blocks of a file that grows begin with those that it had, and those that it had begin with those of a file that is cut
abbrev pub IsLonger : Bool → List ℕ → List ℕ → Type 0
IsLonger true old new = Begins old new
IsLonger false old new = Begins new old

-- a node is a file still, whatever else its record says
pub record IsStillFile (after : Tree) (id : ℕ) (n : Node) : Type 0 where
  pub node : Node
  pub there : IsNode after id node
  pub kind : node.kind ≡ n.kind

-- the block was free: it was neither marked nor given back and waiting
abbrev pub WasFree : Geometry → Room → (ℕ → Option (List ℕ)) → ℕ → Type 0
WasFree g v m k = (is_reserved v.given k ≡ false) × (¬ IsMarked (volume_in g m) k)

-- What steps that give one file another size have kept of a volume and of its tree, and what they have changed. The bitmap's view is the
-- same but for its tally and for runs that were given back since; these stand behind the others, and have no group's number yet. What was
-- reserved is, and no reserved block is marked. What was marked is, or was given back. The file is a file still, and of its blocks before
-- and since one list begins the other: the old one where it grows, else the new one. Each other file is a file of the same size still, on
-- the same blocks. A block that is file data was so, or was free; one that was so is, or was given back; and none that was and is was
-- written. What was changed may be written, or was given back since. What was changed stays so, and each block that is metadata and was
-- not is changed.
pub record Resizes (g : Geometry) (v now : Room) (m map : ℕ → Option (List ℕ)) (tree after : Tree) (id : ℕ) (grows : Bool) (old new : ℕ → Bool) : Type 0 where
  pub rest : now ≡ record v { given = now.given; tally = now.tally }
  pub standing_is : standing now ≡ standing v
  pub holds : (k : ℕ) → is_reserved v.given k ≡ true → is_reserved now.given k ≡ true
  pub clear : IsClear g now map
  pub marked : (k : ℕ) → IsMarked (volume_in g m) k → IsMarked (volume_in g map) k ⊎ (is_reserved now.given k ≡ true)
  pub own : (n : Node) → IsNode tree id n → is_file n.kind ≡ true
      → IsStillFile after id n × IsLonger grows (stream_blocks (volume_in g m) id) (stream_blocks (volume_in g map) id)
  pub files : (b : ℕ) (n : Node) → IsNode tree b n → is_file n.kind ≡ true → b ≢ id
      → IsFileStill after b n × (stream_blocks (volume_in g map) b ≡ stream_blocks (volume_in g m) b)
  pub came : (k : ℕ) → Has (file_data (volume_in g map) after) k → Has (file_data (volume_in g m) tree) k ⊎ WasFree g v m k
  pub left : (k : ℕ) → Has (file_data (volume_in g m) tree) k → Has (file_data (volume_in g map) after) k ⊎ (is_reserved now.given k ≡ true)
  pub bytes : (k : ℕ) → Has (file_data (volume_in g m) tree) k → Has (file_data (volume_in g map) after) k → contents map k ≡ contents m k
  pub written : (k : ℕ) → new k ≡ true → (old k ≡ true) ⊎ (MayBeWritten (volume_in g map) after k ⊎ IsGivenSince g v now k)
  pub kept : StaysChanged old new
  pub entered : (k : ℕ) → IsMetadata (volume_in g map) after k → IsMetadata (volume_in g m) tree k ⊎ (new k ≡ true)

-- A step was made that gives a file another size: what is told now is at work with this tree, these lists and these loose blocks.
pub record IsResizing (g : Geometry) (v now : Room) (m : ℕ → Option (List ℕ)) (tree after : Tree) (lists : Lists) (loose : List ℕ) (id : ℕ) (grows : Bool) (told : Option (ℕ → Option (List ℕ))) (old new : ℕ → Bool) : Type 0 where
  pub map : ℕ → Option (List ℕ)
  pub is : told ≡ Some map
  pub work : IsAtWork g now map after lists loose
  pub resizes : Resizes g v now m map tree after id grows old new
