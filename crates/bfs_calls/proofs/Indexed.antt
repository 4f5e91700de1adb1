-- The inode of an index is a block of the volume.
use Rattle.std.proofs.Common.{◌≡◌, ◌≤◌, ◌<◌, ◌^◌, ℕ, ℤ, List, [], Option, Some, arith}
use Rattle.bfs_base.specs.Lists.{times, Has}
use Rattle.bfs_base.specs.declared.kind.KeyKind.TheVariants.{Text}
use Rattle.bfs_super.specs.Conditions.{IsValid, natural}
use Rattle.bfs_super.specs.Geometry.{geometry_of}
use Rattle.bfs_super.specs.declared.geometry.Geometry.{Geometry}
use Rattle.bfs_super.specs.declared.sup.Super.{Super}
use Rattle.bfs_bitmap.specs.Runs.{Room}
use Rattle.bfs_pages.specs.Maps.{assoc}
use Rattle.bfs_stream.specs.Places.{arrays_at, places_at, frame_at}
use Rattle.bfs_stream.specs.Told.{contents}
use Rattle.bfs_stream.proofs.Doubles.{times-append}
use Rattle.bfs_stream.proofs.Frames.{has_first}
use Rattle.bfs_tree.specs.Trees.{Tree}
use Rattle.bfs_maps.specs.NumberTrees.{IsNumber}
use Rattle.bfs_sound.specs.Volumes.{sizes}
use Rattle.bfs_sound.specs.Inodes.{inode_blocks}
use Rattle.bfs_shift.specs.Lists.{Lists}
use Rattle.bfs_shift.specs.Shifts.{volume_in}
use Rattle.bfs_shift.proofs.Owners.{index_marked}
use Rattle.bfs_look.specs.Ready.{IsReady}
use Rattle.bfs_look.proofs.Known.{few_blocks}

module _ (s : Super) (v : Room) (m : ℕ → Option (List ℕ)) (tree : Tree) (lists : Lists) (valid : IsValid s) (ready : IsReady (geometry_of s) v m tree lists) (name : List ℕ) (value : ℤ) (row : assoc Text lists.names name ≡ Some value) where
  abbrev g : Geometry
  g = geometry_of s

  abbrev id : ℕ
  id = natural value

  own : Has (inode_blocks (volume_in g m) id) id
  own =
      let f : 0 < times id (frame_at (sizes g) (contents m) id) = has_first id (arrays_at (sizes g) (contents m) id) in
      let a = times-append id (frame_at (sizes g) (contents m) id) (places_at (sizes g) (contents m) id) in
      let h : 0 < times id (inode_blocks (volume_in g m) id) = omega (arith, f, a) in
      h

  pub index_low : id < natural s.num_blocks
  index_low = (index_marked g v m tree lists [] ready.work.stocked name value row id own).0

  pub index_number : IsNumber value
  index_number =
      let low = index_low in
      let few = few_blocks s valid in
      let i = ready.agrees.indices name value row in
      (id, i.number, below id low few)
    where
      below : (k : ℕ) → k < natural s.num_blocks → natural s.num_blocks ≤ 2 ^ 62 → k < 2 ^ 62
      below k low few = omega (arith, low, few)
