-- A new node whose bytes stand in its stream, as it is written.
use Rattle.std.specs.Prelude.{◌≡◌, ℕ, List, ◌++◌, Bool, true, Option, Some}
use Rattle.bfs_base.specs.Lists.{Has}
use Rattle.bfs_super.specs.Geometry.{geometry_of}
use Rattle.bfs_super.specs.declared.sup.Super.{Super}
use Rattle.bfs_bitmap.specs.Runs.{Room}
use Rattle.bfs_node.specs.Page.{Row, HasLayout, rows_of, links_of, null_links}
use Rattle.bfs_stream.specs.Places.{HasStream}
use Rattle.bfs_stream.specs.Sizes.{sizes_of}
use Rattle.bfs_stream.specs.Told.{contents, AreTold}
use Rattle.bfs_tree.specs.Trees.{Tree}
use Rattle.bfs_sound.specs.Inodes.{inode_blocks, content}
use Rattle.bfs_shift.specs.Lists.{Lists}
use Rattle.bfs_shift.specs.Shifts.{volume_in}
use Rattle.bfs_shift.specs.Work.{IsAtWork, GoesOn}
use Rattle.bfs_fresh.specs.Fresh.{IsFresh}
use Rattle.bfs_fresh.specs.declared.fields.NewNode.{NewNode}

-- a page is a leaf with these rows and without neighbours
pub record IsLeaf (rows : List Row) (page : List ℕ) : Type 0 where
  pub layout : HasLayout page
  pub rows_are : rows_of page ≡ rows
  pub links : links_of page ≡ null_links

-- A loose block is a new inode, whose stream has these bytes: the stream's blocks are loose with it, and each of them is told and changed.
pub record IsGrown (s : Super) (id : ℕ) (n : NewNode) (name bytes : List ℕ) (v now : Room) (m : ℕ → Option (List ℕ)) (tree : Tree) (lists : Lists) (rest : List ℕ) (told : Option (ℕ → Option (List ℕ))) (old new : ℕ → Bool) : Type 0 where
  pub map : ℕ → Option (List ℕ)
  pub is : told ≡ Some map
  pub work : IsAtWork (geometry_of s) now map tree lists (inode_blocks (volume_in (geometry_of s) map) id ++ rest)
  pub goes_on : GoesOn (geometry_of s) v now m map tree tree old new
  pub fresh : IsFresh s.block_size n name (contents map id)
  pub stream : HasStream (sizes_of s) (contents map) id
  pub bytes_are : content (volume_in (geometry_of s) map) id ≡ bytes
  pub are_told : AreTold map (inode_blocks (volume_in (geometry_of s) map) id)
  pub are_changed : (k : ℕ) → Has (inode_blocks (volume_in (geometry_of s) map) id) k → new k ≡ true
