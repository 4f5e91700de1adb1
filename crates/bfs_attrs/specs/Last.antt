-- The last attribute of an attribute directory, taken with the directory.
use Rattle.std.specs.Prelude.{◌≡◌, ℕ, List, length, drop, Bool, Option, None}
use Rattle.bfs_bitmap.specs.Runs.{Room}
use Rattle.bfs_stream.specs.Told.{contents}
use Rattle.bfs_tree.specs.Trees.{Attributes}
use Rattle.bfs_sound.specs.Attributes.{attribute_directory}
use Rattle.bfs_sound.specs.Inodes.{proper_rows}
use Rattle.bfs_attr.specs.Bearers.{Bearer, volume_at}
use Rattle.bfs_attr.specs.Changed.{AttributesNow}
use Rattle.bfs_attr_write.specs.Removal.{CanTake}

-- The attributes of an inode are held, and their attribute directory stands at this block and names one of them.
pub record IsAlone (b : Bearer) (v : Room) (m : ℕ → Option (List ℕ)) (d : ℕ) (name : List ℕ) : Type 0 where
  pub can : CanTake b v m d name
  pub one : length (proper_rows (volume_at b.geometry m) d) ≡ 1

-- The attributes are these since, there is no attribute directory, and the small data is as it was.
pub record HasLastTaken (b : Bearer) (v now : Room) (m : ℕ → Option (List ℕ)) (attributes : Attributes) (told : Option (ℕ → Option (List ℕ))) (old new : ℕ → Bool) : Type 0 where
  pub now_are : AttributesNow b v now m attributes told old new
  pub missing : attribute_directory (volume_at b.geometry now_are.map) b.id ≡ None
  pub small : drop 232 (contents now_are.map b.id) ≡ drop 232 (contents m b.id)
