-- A volume at work: what a call knows of it between two of its steps, and what the steps so far have kept.
use Rattle.std.specs.Prelude.{◌≡◌, ◌⊎◌, ℕ, List, Option, Some, Bool, true, IsSome}
use Rattle.bfs_base.specs.Lists.{times, Has, AreSame}
use Rattle.bfs_super.specs.declared.geometry.Geometry.{Geometry}
use Rattle.bfs_bitmap.specs.Runs.{Room, Fits, IsCounted, is_reserved}
use Rattle.bfs_txn.specs.Told.{StaysChanged}
use Rattle.bfs_stream.specs.Told.{contents}
use Rattle.bfs_stream.specs.Grown.{IsOfVolume}
use Rattle.bfs_tree.specs.declared.call.Kind.TheVariants.{Dir}
use Rattle.bfs_tree.specs.Trees.{Node, Tree, IsNode, is_file}
use Rattle.bfs_sound.specs.Volumes.{Volume, sizes, IsMarked}
use Rattle.bfs_sound.specs.Inodes.{stream_blocks}
use Rattle.bfs_sound.specs.Owners.{fixed_blocks, file_data, IsMetadata}
use Rattle.bfs_shift.specs.Lists.{Lists}
use Rattle.bfs_shift.specs.Stocked.{Stocked}
use Rattle.bfs_shift.specs.Shifts.{volume_in}

-- The volume that a told map is, with its bitmap, stands for a tree but for what is listed, with some loose blocks: it is stocked;
-- the bitmap is that of the volume, and keeps the number of its used blocks; and told is each metadata block of the tree, but block 0
-- and those of the log. Nothing is asked of the bytes of files, of loose blocks, and of free and reserved ones.
pub record IsAtWork (g : Geometry) (v : Room) (m : ℕ → Option (List ℕ)) (tree : Tree) (lists : Lists) (loose : List ℕ) : Type 0 where
  pub volume : IsOfVolume (sizes g) v
  pub fits : Fits v m
  pub counted : IsCounted v m
  pub stocked : Stocked (volume_in g m) tree lists loose
  pub told : (k : ℕ) → IsMetadata (volume_in g m) tree k → times k (fixed_blocks (volume_in g m)) ≡ 0 → IsSome (m k)

-- a block that a call may write: one that is marked and no file data, and neither block 0 nor one of the log
abbrev pub MayBeWritten : Volume → Tree → ℕ → Type 0
MayBeWritten v tree k = IsMarked v k × ((times k (file_data v tree) ≡ 0) × (times k (fixed_blocks v) ≡ 0))

-- a file is a file of the same size still, whatever else its record says
pub record IsFileStill (after : Tree) (id : ℕ) (n : Node) : Type 0 where
  pub node : Node
  pub there : IsNode after id node
  pub kind : node.kind ≡ n.kind
  pub size : node.size ≡ n.size

-- What steps that give nothing back have kept of a volume and of its tree, and what they have changed. The bitmap's view is the same
-- but for its tally. What was marked is. Each file is a file of the same size still, on the same blocks, no other block is file data, and
-- no file data was written. What was changed may be written: where no block is loose, that is metadata. What was changed stays so, and each
-- block that is metadata and was not is changed. No reserved block becomes marked.
pub record GoesOn (g : Geometry) (v now : Room) (m map : ℕ → Option (List ℕ)) (tree after : Tree) (old new : ℕ → Bool) : Type 0 where
  pub rest : now ≡ record v { tally = now.tally }
  pub marked : (k : ℕ) → IsMarked (volume_in g m) k → IsMarked (volume_in g map) k
  pub files : (id : ℕ) (n : Node) → IsNode tree id n → is_file n.kind ≡ true
      → IsFileStill after id n × (stream_blocks (volume_in g map) id ≡ stream_blocks (volume_in g m) id)
  pub same_data : AreSame (file_data (volume_in g m) tree) (file_data (volume_in g map) after)
  pub bytes : (k : ℕ) → Has (file_data (volume_in g m) tree) k → contents map k ≡ contents m k
  pub written : (k : ℕ) → new k ≡ true
      → (old k ≡ true) ⊎ (MayBeWritten (volume_in g map) after k)
  pub kept : StaysChanged old new
  pub entered : (k : ℕ) → IsMetadata (volume_in g map) after k → IsMetadata (volume_in g m) tree k ⊎ (new k ≡ true)
  pub reserved : (k : ℕ) → is_reserved v.given k ≡ true → ¬ IsMarked (volume_in g m) k → ¬ IsMarked (volume_in g map) k

-- A step was made: what is told now is at work with this tree, these lists and these loose blocks, and goes on from what was told.
pub record IsStepped (g : Geometry) (v now : Room) (m : ℕ → Option (List ℕ)) (tree after : Tree) (lists : Lists) (loose : List ℕ) (told : Option (ℕ → Option (List ℕ))) (old new : ℕ → Bool) : Type 0 where
  pub map : ℕ → Option (List ℕ)
  pub is : told ≡ Some map
  pub work : IsAtWork g now map after lists loose
  pub goes_on : GoesOn g v now m map tree after old new

-- a directory of a tree stands at this block of a volume at work
pub record HasDirectoryAt (g : Geometry) (v : Room) (m : ℕ → Option (List ℕ)) (d : ℕ) : Type 0 where
  pub tree : Tree
  pub lists : Lists
  pub loose : List ℕ
  pub node : Node
  pub work : IsAtWork g v m tree lists loose
  pub there : IsNode tree d node
  pub kind : node.kind ≡ Dir

-- some tree stands on a volume at work, with some lists and loose blocks
pub record HasWork (g : Geometry) (v : Room) (m : ℕ → Option (List ℕ)) : Type 0 where
  pub tree : Tree
  pub lists : Lists
  pub loose : List ℕ
  pub work : IsAtWork g v m tree lists loose
