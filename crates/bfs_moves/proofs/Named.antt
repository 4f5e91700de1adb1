-- A directory's rows were changed.
use Rattle.std.proofs.Common.{◌≡◌, ◌≤◌, ◌<◌, ◌+◌, ℕ, List, ◌++◌, ap, arith, Bool, Option}
use Rattle.std.specs.Prelude.{IsSome}
use Rattle.bfs_base.specs.Lists.{times, Has}
use Rattle.bfs_base.specs.declared.kind.KeyKind.TheVariants.{Text}
use Rattle.bfs_super.specs.Conditions.{IsValid}
use Rattle.bfs_super.specs.Geometry.{geometry_of}
use Rattle.bfs_super.specs.declared.geometry.Geometry.{Geometry}
use Rattle.bfs_super.specs.declared.sup.Super.{Super}
use Rattle.bfs_bitmap.specs.Runs.{Room}
use Rattle.bfs_node.specs.Page.{Row}
use Rattle.bfs_node.specs.declared.fault.TreeFault.{TreeFault}
use Rattle.bfs_node.specs.declared.fault.TreeFault.TheVariants as fault
use Rattle.bfs_pages.specs.Order.{Key}
use Rattle.bfs_stream.specs.Places.{arrays_at}
use Rattle.bfs_stream.specs.Sizes.{Origin, sizes_of}
use Rattle.bfs_stream.specs.Told.{contents, AreTold}
use Rattle.bfs_stream.specs.declared.fault.GrowFault.{GrowFault}
use Rattle.bfs_stream.specs.declared.fault.GrowFault.TheVariants as grow
use Rattle.bfs_stream.proofs.Doubles.{times-append}
use Rattle.bfs_stream.proofs.Frames.{has_first}
use Rattle.bfs_stream_pages.specs.Causes.{HasFailed}
use Rattle.bfs_stream_pages.specs.Moves.{Moved}
use Rattle.bfs_stream_pages.specs.Steps.{IsUndamaged}
use Rattle.bfs_tree.specs.declared.call.Kind.{Kind}
use Rattle.bfs_tree.specs.declared.call.Kind.TheVariants.{Dir}
use Rattle.bfs_tree.specs.Trees.{Node, Tree, IsNode}
use Rattle.bfs_make.specs.Mapped.{HasHeld, IsMap}
use Rattle.bfs_make.specs.NumberTrees.{AreNumbers}
use Rattle.bfs_make.specs.Refused.{IsUndone, IsPutFault}
use Rattle.bfs_sound.specs.Volumes.{Volume, IsMarked}
use Rattle.bfs_sound.specs.Inodes.{is_short, inode_blocks}
use Rattle.bfs_sound.specs.Owners.{node_blocks, file_data, reach}
use Rattle.bfs_sound.proofs.Nodes.{own_metadata, other_blocks, node_metadata, node_split}
use Rattle.bfs_shift.specs.Lists.{Lists, with_rows}
use Rattle.bfs_shift.specs.Stocked.{Stocked}
use Rattle.bfs_shift.specs.Shifts.{volume_in}
use Rattle.bfs_shift.specs.Inodes.{HasBytes}
use Rattle.bfs_shift.proofs.Held.{owner_held, directory_is_map}
use Rattle.bfs_shift.proofs.Maps.{directory_has_rows}
use Rattle.bfs_shift.proofs.Owners.{directory_owns}
use Rattle.bfs_shift.specs.Work.{IsAtWork, IsStepped, MayBeWritten}
use Rattle.bfs_moves.specs.Written.{HasBlockWords, HasRowsSince, HasStreamSince}
use Rattle.bfs_shift.proofs.Basics.{some_bytes}
use Rattle.bfs_shift.proofs.Files.{metadata_in, all_split, unfiled, apart_of}
use Rattle.bfs_shift.proofs.AtWork.{own_few}
use Rattle.bfs_moves.proofs.Streamed.{streamed_step}
use Rattle.bfs_shift.proofs.AtWork.{stream_metadata, stream_marked}

pub failed_of : (o : Origin) (v now : Room) (m map : ℕ → Option (List ℕ)) → Moved o v now m map → (f : GrowFault) → IsUndamaged f → HasFailed o v m f
failed_of o v now m map moved (grow.NoRun wanted free) bad = absurd bad
failed_of o v now m map moved (grow.Full room) bad = absurd bad
failed_of o v now m map moved (grow.Block f) fine = record { now = now; map = map; moved = moved; why = fine }

-- a read that failed is a fault of a call that puts
pub undone_put : (o : Origin) (v now : Room) (m map : ℕ → Option (List ℕ)) (rows : List Row) (name : Key) → Moved o v now m map → (f : TreeFault GrowFault) → IsUndone f → IsPutFault Text o v m rows name f
undone_put o v now m map rows name moved fault.Exists bad = absurd bad
undone_put o v now m map rows name moved fault.Absent bad = absurd bad
undone_put o v now m map rows name moved (fault.Damaged page sort) bad = absurd bad
undone_put o v now m map rows name moved (fault.Pages f) fine = (failed_of o v now m map moved f fine, λ value there. fine)
undone_put o v now m map rows name moved fault.NoMemory fine = tt

-- the inode of a stream that was changed is told
pub still_there : (s : Super) (m : ℕ → Option (List ℕ)) (d : ℕ) (v now : Room) (P : List ℕ → Type 0) (told : Option (ℕ → Option (List ℕ))) (old new : ℕ → Bool) (written : HasStreamSince (record { id = d; sizes = sizes_of s }) v now m P told old new) → IsSome (written.since.map d)
still_there s m d v now P told old new written = written.since.moved.owns.stands.told d (has_first d (arrays_at (sizes_of s) (contents written.since.map) d))

module _ (s : Super) (v : Room) (m : ℕ → Option (List ℕ)) (tree : Tree) (lists : Lists) (loose : List ℕ) (d : ℕ) (n : Node) (valid : IsValid s) (work : IsAtWork (geometry_of s) v m tree lists loose) (is : IsNode tree d n) (dir : n.kind ≡ Dir) where
  abbrev g : Geometry
  g = geometry_of s

  abbrev was : Volume
  was = volume_in g m

  abbrev o : Origin
  o = record { id = d; sizes = sizes_of s }

  some : 0 < s.block_size
  some = some_bytes s valid

  module _ (now : Room) (rows : List Row) (told : Option (ℕ → Option (List ℕ))) (old new : ℕ → Bool) (written : HasRowsSince o v now m rows told old new) (words : HasBlockWords (contents written.since.map d)) where
    abbrev is_now : Volume
    is_now = volume_in g written.since.map

    bytes : HasBytes (contents m d) (contents written.since.map d)
    bytes = record { long = (let l = written.before.long in omega (arith, l)); before = written.before.words; after = words.words }

    stocked : Stocked is_now tree (with_rows lists d rows) loose
    stocked = directory_has_rows g v now m rows told old new tree lists loose work.volume some work.stocked d n is dir written.since bytes

    few : (k : ℕ) → times k (inode_blocks was d) ≤ times k (node_blocks was (d, n))
    few k = let i = stream_metadata was d n dir k in let p = node_split was k (d, n) in omega (arith, i, p)

    own : (k : ℕ) → Has (inode_blocks is_now d) k → MayBeWritten is_now tree k
    own k h = unfiled is_now tree (with_rows lists d rows) loose stocked k (
        let has : 0 < times k (inode_blocks is_now d) = h in
        let i = stream_metadata is_now d n dir k in
        let in_it = metadata_in is_now tree (with_rows lists d rows) loose stocked d n is k in
        omega (arith, has, i, in_it))

    pub named_step : IsStepped g v now m tree tree (with_rows lists d rows) loose told old new
    named_step = streamed_step s v now m tree lists (with_rows lists d rows) loose d told old new valid work (stream_marked s v m tree lists loose d n valid work is dir) (apart_of was tree lists loose work.stocked d n is dir (inode_blocks was d) few)
        written.since.map written.since.is written.since.held written.since.moved written.since.written written.since.stays written.since.fresh stocked own
