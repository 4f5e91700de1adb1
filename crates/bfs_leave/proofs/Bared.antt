-- A node without attributes in a directory was given back.
use Rattle.std.proofs.Common.{◌≡◌, ◌⊎◌, ◌∙◌, ℕ, List, [], ◌∷◌, sym, Bool, true, false, Option, None}
use Rattle.bfs_super.specs.Conditions.{IsValid}
use Rattle.bfs_super.specs.Geometry.{geometry_of}
use Rattle.bfs_super.specs.declared.geometry.Geometry.{Geometry}
use Rattle.bfs_super.specs.declared.sup.Super.{Super}
use Rattle.bfs_bitmap.specs.Fills.{IsBitmapBlock}
use Rattle.bfs_bitmap.specs.Runs.{Room}
use Rattle.bfs_txn.specs.Told.{StaysChanged}
use Rattle.bfs_stream.specs.Grown.{Owns}
use Rattle.bfs_stream.specs.Sizes.{Origin, sizes_of}
use Rattle.bfs_stream.specs.Standing.{standing}
use Rattle.bfs_stream.specs.Told.{contents}
use Rattle.bfs_stream.specs.Trimmed.{Gave}
use Rattle.bfs_tree.specs.Trees.{Node, Tree, IsNode}
use Rattle.bfs_sound.specs.Attributes.{attribute_directory}
use Rattle.bfs_sound.specs.Inodes.{inode_blocks}
use Rattle.bfs_sound.specs.Owners.{has_no_stream}
use Rattle.bfs_sound.specs.Volumes.{Volume}
use Rattle.bfs_shift.specs.Lists.{Lists}
use Rattle.bfs_shift.specs.Shifts.{volume_in}
use Rattle.bfs_shift.specs.Work.{IsAtWork}
use Rattle.bfs_shift.proofs.Basics.{some_bytes}
use Rattle.bfs_make.specs.Given.{HasGivenBack}
use Rattle.bfs_leave.specs.Given.{keeps_target}
use Rattle.bfs_leave.specs.Leaving.{IsClear, IsLeft, tree_without}
use Rattle.bfs_leave.proofs.Givings.{from_gave, from_inode}
use Rattle.bfs_leave.proofs.Owned.{alone_is, bare_blocks, node_owns}
use Rattle.bfs_leave.proofs.Returned.{given_step}

module _ (s : Super) (v : Room) (m : ℕ → Option (List ℕ)) (tree : Tree) (lists : Lists) (loose : List ℕ) (id : ℕ) (n : Node) (valid : IsValid s) (work : IsAtWork (geometry_of s) v m tree lists loose) (is : IsNode tree id n) where
  abbrev g : Geometry
  g = geometry_of s

  abbrev was : Volume
  was = volume_in g m

  abbrev o : Origin
  o = record { id = id; sizes = sizes_of s }

  stream_is : (t : Bool) → keeps_target (contents m id) ≡ t → has_no_stream was (id, n) ≡ t
  stream_is t keeps = sym (alone_is was id n (work.stocked.nodes id n is)) ∙ keeps

  pub bared_owns : keeps_target (contents m id) ≡ false → Owns o v [] m
  bared_owns keeps = node_owns s v m tree lists loose id n valid work is (stream_is false keeps)

  module _ (now : Room) (told : Option (ℕ → Option (List ℕ))) (old new : ℕ → Bool) (clear : IsClear g v m) (none : attribute_directory was id ≡ None)
      (rest : now ≡ record v { given = now.given; tally = now.tally }) (stands : standing now ≡ standing v) (kept : StaysChanged old new) where
    pub bared_block : keeps_target (contents m id) ≡ true → Gave v now (id ∷ []) m told → ((k : ℕ) → new k ≡ true → (old k ≡ true) ⊎ IsBitmapBlock v k)
        → IsLeft g v now m tree (tree_without tree id) lists loose told old new
    bared_block keeps gave changed = given_step g v now m tree lists loose id n (id ∷ []) told old new (some_bytes s valid) work clear is
        (bare_blocks was id n true none (stream_is true keeps)) (from_gave v now (id ∷ []) m told old new gave changed) rest stands kept

    pub bared_inode : keeps_target (contents m id) ≡ false → HasGivenBack o v now m told old new
        → IsLeft g v now m tree (tree_without tree id) lists loose told old new
    bared_inode keeps gave = given_step g v now m tree lists loose id n (inode_blocks was id) told old new (some_bytes s valid) work clear is
        (bare_blocks was id n false none (stream_is false keeps)) (from_inode o v now m told old new gave) rest stands kept
