-- How a stream grows.
use Rattle.std.specs.List.{flat_map}
use Rattle.std.specs.Prelude.{◌≡◌, ◌≤◌, ◌<◌, ◌⊎◌, ℕ, ◌+◌, ◌-◌, ◌*◌, ◌/◌, ◌==◌, ◌&&◌, List, [], ◌++◌, length, Option, Some, Bool, true, false, slice_set, replicate, All, not, if◌then◌else◌}
use Rattle.bfs_base.specs.Lists.{times, Has, IsOnce}
use Rattle.bfs_bytes.specs.declared.Run.{Run}
use Rattle.bfs_bitmap.specs.Runs.{Room, Fits, IsCounted, HasNoRun, per_block, is_free, marked}
use Rattle.bfs_bitmap.specs.Fills.{IsBitmapBlock}
use Rattle.bfs_inode.specs.Inode.{Stream, KeepsOutside, stream_at, inode_at}
use Rattle.bfs_txn.specs.Told.{StaysChanged, with_block}
use Rattle.bfs_stream.specs.Sizes.{Sizes, Origin, IsWhole, array_length, table_length}
use Rattle.bfs_stream.specs.Places.{run_blocks, blocks_of, array_runs, used_runs, fields, level_blocks, levels_at, places_at, frame_at, whole_at, second_arrays}
use Rattle.bfs_stream.specs.declared.table.Table.{Table}
use Rattle.bfs_stream.specs.declared.table.Tables.{Tables}
use Rattle.bfs_stream.specs.Told.{contents, AreTold, Stands}

-- the bitmap is of the same volume
pub record IsOfVolume (s : Sizes) (v : Room) : Type 0 where
  pub block_size : v.block_size ≡ s.block_size
  pub blocks : v.blocks ≡ s.blocks
  pub group_blocks : v.group_blocks ≡ s.group_blocks

-- a block that holds no bits of the bitmap; block 0, which holds none either, is spoken of apart
abbrev pub IsOutside : Room → ℕ → Type 0
IsOutside v k = v.blocks ≤ per_block v * (k - 1)

-- The stream stands; none of its blocks and of those in hand is there twice, is free or holds bits of the bitmap, and no
-- block that holds bits is free.
pub record Owns (o : Origin) (v : Room) (hand : List ℕ) (m : ℕ → Option (List ℕ)) : Type 0 where
  pub stands : Stands o m
  pub once : IsOnce (hand ++ whole_at o.sizes (contents m) o.id)
  pub taken : (k : ℕ) → Has (hand ++ whole_at o.sizes (contents m) o.id) k → is_free v m k ≡ false
  pub outside : (k : ℕ) → Has (hand ++ whole_at o.sizes (contents m) o.id) k → IsOutside v k
  pub bits : (k : ℕ) → per_block v * (k - 1) < v.blocks → is_free v m k ≡ false
  pub fits : Fits v m

-- A run was taken: its blocks were free and are so no more, and but for bits nothing changed; a right count of the used
-- blocks stays right.
pub record Took (s : Sizes) (v now : Room) (run : Run) (m : ℕ → Option (List ℕ)) (told : Option (ℕ → Option (List ℕ))) : Type 0 where
  pub map : ℕ → Option (List ℕ)
  pub is : told ≡ Some map
  pub fits : Fits now map
  pub others : (k : ℕ) → IsOutside v k → map k ≡ m k
  pub first : map 0 ≡ m 0
  pub were_free : (k : ℕ) → Has (run_blocks s run) k → is_free v m k ≡ true
  pub free : (k : ℕ) → is_free now map k ≡ (is_free v m k && (times k (run_blocks s run) == 0))
  pub marks : (k : ℕ) → k < v.blocks → marked (per_block v) map k ≡ (if times k (run_blocks s run) == 0 then marked (per_block v) m k else 1)
  pub counted : IsCounted v m → IsCounted now map

-- how many blocks more the double indirect level can take: its array lists as many tables as it has places for runs, and
-- each table as many runs
abbrev pub room_at : Sizes → (ℕ → List ℕ) → ℕ → ℕ
room_at s blocks id = array_length s * (table_length s * table_length s) - length (level_blocks s (levels_at s blocks id).runs)

-- each block that was changed had been so before, or is one for which this holds, or is in the list
abbrev pub HasWritten : (ℕ → Type 0) → (ℕ → Bool) → (ℕ → Bool) → List ℕ → Type 0
HasWritten P old new xs = (k : ℕ) → new k ≡ true → (old k ≡ true) ⊎ (P k ⊎ Has xs k)

-- the block of the bitmap that has the bit of a block for which this holds
abbrev pub HasBitIn : Room → (ℕ → Type 0) → ℕ → Type 0
HasBitIn v P k = (j : ℕ) × P j × (k ≡ 1 + j / per_block v)

-- each block that was changed had been so before, or holds bits, or is one of these
abbrev pub AreWritten : Room → (ℕ → Bool) → (ℕ → Bool) → List ℕ → Type 0
AreWritten v old new xs = (k : ℕ) → new k ≡ true → (old k ≡ true) ⊎ (IsBitmapBlock v k ⊎ Has xs k)

-- the fields of the inode beside its stream are the same, and so is the size in the stream; and no byte beside the stream's
-- has changed
abbrev pub KeepsRest : List ℕ → List ℕ → Type 0
KeepsRest old new =
    (inode_at new ≡ record (inode_at old) { stream_bytes = (inode_at new).stream_bytes }) × ((stream_at new).size ≡ (stream_at old).size)
    × KeepsOutside old new

-- is the number in the second list, and not in the first?
abbrev pub is_new : List ℕ → List ℕ → ℕ → Bool
is_new before after k = (times k before == 0) && not (times k after == 0)

-- The stream has grown by fresh blocks: what it has now and had not was free, and its bit is set; no other bit changed;
-- what is free now was free and is not in it; the room of the double indirect level fell by no more; but for its inode,
-- its arrays and bits nothing changed, and of the blocks with bits those alone that have one of what it has now and had not;
-- what was changed stays so, and so is each block of an array that it had not; of the inode the ranges and runs alone; and a
-- right count of the used blocks stays right.
pub record Grown (o : Origin) (v now : Room) (m : ℕ → Option (List ℕ)) (fresh : List ℕ) (told : Option (ℕ → Option (List ℕ))) (old new : ℕ → Bool) : Type 0 where
  pub map : ℕ → Option (List ℕ)
  pub is : told ≡ Some map
  pub owns : Owns o now [] map
  pub places : places_at o.sizes (contents map) o.id ≡ places_at o.sizes (contents m) o.id ++ fresh
  pub keeps : (k : ℕ) → Has (frame_at o.sizes (contents m) o.id) k → Has (frame_at o.sizes (contents map) o.id) k
  pub were_free : (k : ℕ) → Has (whole_at o.sizes (contents map) o.id) k → times k (whole_at o.sizes (contents m) o.id) ≡ 0 → is_free v m k ≡ true
  pub free : (k : ℕ) → is_free now map k ≡ (is_free v m k && (times k (whole_at o.sizes (contents map) o.id) == 0))
  pub marks : (k : ℕ) → k < v.blocks → marked (per_block v) map k ≡ (if is_new (whole_at o.sizes (contents m) o.id) (whole_at o.sizes (contents map) o.id) k then 1 else marked (per_block v) m k)
  pub counted : IsCounted v m → IsCounted now map
  pub room : room_at o.sizes (contents m) o.id ≤ room_at o.sizes (contents map) o.id + length fresh
  pub others : (k : ℕ) → IsOutside v k → times k (frame_at o.sizes (contents map) o.id) ≡ 0 → map k ≡ m k
  pub first : times 0 (frame_at o.sizes (contents map) o.id) ≡ 0 → map 0 ≡ m 0
  pub written : AreWritten v old new (frame_at o.sizes (contents map) o.id)
  pub bits : HasWritten (HasBitIn v (λ j. is_new (whole_at o.sizes (contents m) o.id) (whole_at o.sizes (contents map) o.id) j ≡ true)) old new (frame_at o.sizes (contents map) o.id)
  pub stays : StaysChanged old new
  pub entered : (k : ℕ) → Has (frame_at o.sizes (contents map) o.id) k → times k (whole_at o.sizes (contents m) o.id) ≡ 0 → new k ≡ true
  pub kept : KeepsRest (contents m o.id) (contents map o.id)

-- it has grown by so many blocks
abbrev pub HasGrown : Origin → Room → Room → (ℕ → Option (List ℕ)) → ℕ → Option (ℕ → Option (List ℕ)) → (ℕ → Bool) → (ℕ → Bool) → Type 0
HasGrown o v now m n told old new = (fresh : List ℕ) × (length fresh ≡ n) × Grown o v now m fresh told old new

-- A run was written at a place of an array, and nothing else has changed.
pub record HasPut (s : Sizes) (array : Run) (place : ℕ) (run : Run) (m : ℕ → Option (List ℕ)) (told : Option (ℕ → Option (List ℕ))) : Type 0 where
  pub map : ℕ → Option (List ℕ)
  pub is : told ≡ Some map
  pub runs : array_runs s (contents map) array ≡ slice_set (array_runs s (contents m) array) place run
  pub are_told : AreTold map (run_blocks s array)
  pub others : (k : ℕ) → times k (run_blocks s array) ≡ 0 → map k ≡ m k

-- The inode has these fields of the stream now, and nothing else has changed.
pub record HasFields (o : Origin) (t : Stream) (m : ℕ → Option (List ℕ)) (told : Option (ℕ → Option (List ℕ))) : Type 0 where
  pub bytes : List ℕ
  pub is : told ≡ Some (with_block o.id bytes m)
  pub fields : stream_at bytes ≡ t
  pub kept : KeepsRest (contents m o.id) bytes

-- the table of the stream's indirect level, which has no level behind it
abbrev pub IsTable : Origin → (ℕ → Option (List ℕ)) → Table → Type 0
IsTable o m t =
    (t.array ≡ (fields o.sizes (contents m) o.id).indirect) × (t.used ≡ length (used_runs (array_runs o.sizes (contents m) t.array)))
    × (t.blocks ≡ length (places_at o.sizes (contents m) o.id))

-- Each block of an array is zeros now, and nothing else has changed.
pub record HasCleared (s : Sizes) (array : Run) (m : ℕ → Option (List ℕ)) (told : Option (ℕ → Option (List ℕ))) : Type 0 where
  pub map : ℕ → Option (List ℕ)
  pub is : told ≡ Some map
  pub zeros : (k : ℕ) → Has (run_blocks s array) k → map k ≡ Some (replicate s.block_size 0)
  pub others : (k : ℕ) → times k (run_blocks s array) ≡ 0 → map k ≡ m k

-- all runs that stand in the tables which an array lists, used or not
abbrev pub table_runs : Sizes → (ℕ → List ℕ) → Run → List Run
table_runs s blocks array = flat_map (array_runs s blocks) (used_runs (array_runs s blocks array))

-- An array and the tables that it lists are told, each table is as long as an array, and no block of them is there twice.
pub record HasTables (s : Sizes) (array : Run) (m : ℕ → Option (List ℕ)) : Type 0 where
  pub first : AreTold m (run_blocks s array)
  pub second : AreTold m (blocks_of s (used_runs (array_runs s (contents m) array)))
  pub arrays : All (IsWhole s) (used_runs (array_runs s (contents m) array))
  pub once : IsOnce (run_blocks s array ++ blocks_of s (used_runs (array_runs s (contents m) array)))

-- A run was written at a place of the tables that an array lists, and nothing else has changed.
pub record HasPutBelow (s : Sizes) (array : Run) (place : ℕ) (run : Run) (m : ℕ → Option (List ℕ)) (told : Option (ℕ → Option (List ℕ))) : Type 0 where
  pub map : ℕ → Option (List ℕ)
  pub is : told ≡ Some map
  pub listed : array_runs s (contents map) array ≡ array_runs s (contents m) array
  pub runs : table_runs s (contents map) array ≡ slice_set (table_runs s (contents m) array) place run
  pub tables : HasTables s array map
  pub others : (k : ℕ) → times k (blocks_of s (used_runs (array_runs s (contents m) array))) ≡ 0 → map k ≡ m k

-- the tables of the stream's double indirect level
abbrev pub AreTables : Origin → (ℕ → Option (List ℕ)) → Tables → Type 0
AreTables o m t =
    (t.array ≡ (fields o.sizes (contents m) o.id).double_indirect) × (t.listed ≡ length (second_arrays o.sizes (contents m) o.id))
    × (t.used ≡ length (used_runs (table_runs o.sizes (contents m) t.array))) × (t.blocks ≡ length (places_at o.sizes (contents m) o.id))

-- the direct runs are all used, and the indirect level has an array
abbrev pub HasTable : Origin → (ℕ → Option (List ℕ)) → Type 0
HasTable o m = (length (used_runs (fields o.sizes (contents m) o.id).direct) ≡ 12) × (0 < (fields o.sizes (contents m) o.id).indirect.len)

-- the runs of the indirect level are all used, and the double indirect level has an array
abbrev pub HasArray : Origin → (ℕ → Option (List ℕ)) → Type 0
HasArray o m =
    (0 < length (used_runs (array_runs o.sizes (contents m) (fields o.sizes (contents m) o.id).indirect)))
    × (length (used_runs (array_runs o.sizes (contents m) (fields o.sizes (contents m) o.id).indirect)) ≡ length (array_runs o.sizes (contents m) (fields o.sizes (contents m) o.id).indirect))
    × (0 < (fields o.sizes (contents m) o.id).double_indirect.len)

-- the double indirect level has blocks
abbrev pub UsesDouble : Origin → (ℕ → Option (List ℕ)) → Type 0
UsesDouble o m = 0 < length (level_blocks o.sizes (levels_at o.sizes (contents m) o.id).runs)

-- It has grown by at least so many blocks, and by fewer than the blocks of an array more; where the double indirect level
-- has no blocks, by just so many.
pub record HasGrownBy (o : Origin) (v now : Room) (m : ℕ → Option (List ℕ)) (blocks : ℕ) (told : Option (ℕ → Option (List ℕ))) (old new : ℕ → Bool) : Type 0 where
  pub count : ℕ
  pub enough : blocks ≤ count
  pub most : count < blocks + array_length o.sizes
  pub grown : HasGrown o v now m count told old new
  pub exact : ¬ UsesDouble o grown.2.map → count ≡ blocks

-- Growing came, with so many blocks added, to where no free run of as many blocks as were asked for is left. One block was
-- asked for, or as many as an array has.
pub record IsStuck (o : Origin) (v : Room) (m : ℕ → Option (List ℕ)) (added asked free : ℕ) : Type 0 where
  pub now : Room
  pub rest : now ≡ record v { tally = now.tally }
  pub map : ℕ → Option (List ℕ)
  pub old : ℕ → Bool
  pub new : ℕ → Bool
  pub grown : HasGrown o v now m added (Some map) old new
  pub wanted : (asked ≡ 1) ⊎ (asked ≡ array_length o.sizes)
  pub none : HasNoRun now map asked free

-- two streams have no block in common
abbrev pub AreApart : Origin → Origin → (ℕ → Option (List ℕ)) → Type 0
AreApart o p m = (k : ℕ) → Has (whole_at p.sizes (contents m) p.id) k → times k (whole_at o.sizes (contents m) o.id) ≡ 0

-- A stream has stayed while another one changed: its blocks and what they hold are as they were, it stands as before, and
-- the two still have no block in common.
pub record HasStayed (o p : Origin) (now : Room) (m map : ℕ → Option (List ℕ)) : Type 0 where
  pub same : (k : ℕ) → Has (whole_at p.sizes (contents m) p.id) k → map k ≡ m k
  pub levels : levels_at p.sizes (contents map) p.id ≡ levels_at p.sizes (contents m) p.id
  pub owns : Owns p now [] map
  pub apart : AreApart o p map
