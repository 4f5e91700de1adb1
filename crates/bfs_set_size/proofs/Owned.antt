-- A file's stream owns its blocks, and its record has the stream's size.
use Rattle.std.proofs.Common.{◌≡◌, ◌≤◌, ◌/◌, ℕ, max, arith, List, [], subst, true, Option}
use Rattle.std.specs.Prelude.{IsSome}
use Rattle.bfs_super.specs.Conditions.{IsValid, natural}
use Rattle.bfs_super.specs.Geometry.{geometry_of}
use Rattle.bfs_super.specs.declared.sup.Super.{Super}
use Rattle.bfs_bitmap.specs.Runs.{Room}
use Rattle.bfs_stream.specs.Grown.{Owns}
use Rattle.bfs_stream.specs.Places.{fields, arrays_at}
use Rattle.bfs_stream.specs.Sizes.{Origin, Sizes, sizes_of, array_length}
use Rattle.bfs_stream.specs.Told.{contents}
use Rattle.bfs_stream.proofs.Frames.{has_first}
use Rattle.bfs_tree.specs.Trees.{Node, Tree, IsNode, is_file}
use Rattle.bfs_tree.specs.declared.call.Kind.{Kind}
use Rattle.bfs_sound.specs.Nodes.{HasContent}
use Rattle.bfs_shift.specs.Lists.{Lists}
use Rattle.bfs_shift.specs.Shifts.{volume_in}
use Rattle.bfs_shift.specs.Work.{IsAtWork}
use Rattle.bfs_leave.proofs.Owned.{node_owns}
use Rattle.bfs_set_size.proofs.Refiled.{file_kind, streamed}

one_or_more : (k : ℕ) → 1 ≤ max 1 k
one_or_more k = omega arith

-- an array has a block
pub array_some : (s : Sizes) → 1 ≤ array_length s
array_some s = one_or_more (4096 / s.block_size)

-- the inode of a stream that owns its blocks is told
pub owner_told : (o : Origin) (v : Room) (m : ℕ → Option (List ℕ)) → Owns o v [] m → IsSome (m o.id)
owner_told o v m owns = owns.stands.told o.id (has_first o.id (arrays_at o.sizes (contents m) o.id))

module _ (s : Super) (v : Room) (m : ℕ → Option (List ℕ)) (tree : Tree) (lists : Lists) (loose : List ℕ) (id : ℕ) (n : Node) (valid : IsValid s) (work : IsAtWork (geometry_of s) v m tree lists loose) (is : IsNode tree id n) (file : is_file n.kind ≡ true) where
  pub file_owns : Owns (record { id = id; sizes = sizes_of s }) v [] m
  file_owns = node_owns s v m tree lists loose id n valid work is (streamed (volume_in (geometry_of s) m) id n (file_kind n.kind file))

  pub file_size : n.size ≡ natural (fields (sizes_of s) (contents m) id).size
  file_size = (subst (λ (k : Kind). HasContent (volume_in (geometry_of s) m) id n k) (file_kind n.kind file) (work.stocked.nodes id n is).content_is).1
