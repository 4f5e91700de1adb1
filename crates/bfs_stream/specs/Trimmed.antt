-- How a stream is cut.
use Rattle.std.specs.Prelude.{◌≡◌, ◌≤◌, ◌<◌, ◌⊎◌, ℕ, ◌+◌, ◌-◌, ◌*◌, ◌==◌, ◌||◌, List, [], ◌∷◌, ◌++◌, length, Option, Some, Bool, true, not, if◌then◌else◌}
use Rattle.bfs_base.specs.Lists.{times, Has, IsOnce}
use Rattle.bfs_super.specs.Conditions.{natural}
use Rattle.bfs_bitmap.specs.Runs.{Room, Fits, IsCounted, per_block, is_free, is_reserved, marked}
use Rattle.bfs_stream.specs.Sizes.{Origin, array_length, table_length}
use Rattle.bfs_stream.specs.Places.{Levels, used_runs, level_blocks, fields, second_arrays, levels_at, places_at, frame_at, whole_at}
use Rattle.bfs_stream.specs.Told.{contents}
use Rattle.bfs_stream.specs.Grown.{IsOutside, Owns, AreWritten, HasWritten, HasBitIn, KeepsRest, UsesDouble, is_new}

-- each of these blocks that the volume has is marked as used
abbrev pub AreMarked : Room → List ℕ → (ℕ → Option (List ℕ)) → Type 0
AreMarked v xs m = (k : ℕ) → k < v.blocks → Has xs k → marked (per_block v) m k ≡ 1

-- Blocks were given back: their bits are clear and they are reserved, and but for bits nothing changed; where each was given
-- back once and was used, a right count of the used blocks stays right.
pub record Gave (v now : Room) (xs : List ℕ) (m : ℕ → Option (List ℕ)) (told : Option (ℕ → Option (List ℕ))) : Type 0 where
  pub map : ℕ → Option (List ℕ)
  pub is : told ≡ Some map
  pub fits : Fits now map
  pub others : (k : ℕ) → IsOutside v k → map k ≡ m k
  pub first : map 0 ≡ m 0
  pub reserved : (k : ℕ) → is_reserved now.given k ≡ (is_reserved v.given k || not (times k xs == 0))
  pub marks : (k : ℕ) → k < v.blocks → marked (per_block v) map k ≡ (if times k xs == 0 then marked (per_block v) m k else 0)
  pub counted : IsOnce xs → AreMarked v xs m → IsCounted v m → IsCounted now map

-- The stream has been cut: these blocks at its end are in it no more. It has no block that it had not; what was its and is
-- so no more has no bit set and is reserved; no other bit changed, and nothing else is reserved; the same blocks are free; but
-- for bits nothing changed that isn't its inode or an array which it has still, and of the blocks with bits those alone that
-- have one of what is its no more; of the inode the ranges and runs alone; and where its blocks were used, a right count of the
-- used blocks stays right.
pub record Trimmed (o : Origin) (v now : Room) (m : ℕ → Option (List ℕ)) (gone : List ℕ) (told : Option (ℕ → Option (List ℕ))) (old new : ℕ → Bool) : Type 0 where
  pub map : ℕ → Option (List ℕ)
  pub is : told ≡ Some map
  pub owns : Owns o now [] map
  pub places : places_at o.sizes (contents m) o.id ≡ places_at o.sizes (contents map) o.id ++ gone
  pub keeps : (k : ℕ) → Has (frame_at o.sizes (contents map) o.id) k → Has (frame_at o.sizes (contents m) o.id) k
  pub fewer : (k : ℕ) → times k (whole_at o.sizes (contents map) o.id) ≤ times k (whole_at o.sizes (contents m) o.id)
  pub reserved : (k : ℕ) → is_reserved now.given k ≡ (is_reserved v.given k || is_new (whole_at o.sizes (contents map) o.id) (whole_at o.sizes (contents m) o.id) k)
  pub marks : (k : ℕ) → k < v.blocks → marked (per_block v) map k ≡ (if is_new (whole_at o.sizes (contents map) o.id) (whole_at o.sizes (contents m) o.id) k then 0 else marked (per_block v) m k)
  pub counted : AreMarked v (whole_at o.sizes (contents m) o.id) m → IsCounted v m → IsCounted now map
  pub free : (k : ℕ) → is_free now map k ≡ is_free v m k
  pub touched : List ℕ
  pub still : (k : ℕ) → Has touched k → Has (frame_at o.sizes (contents map) o.id) k
  pub others : (k : ℕ) → IsOutside v k → times k touched ≡ 0 → map k ≡ m k
  pub first : times 0 touched ≡ 0 → map 0 ≡ m 0
  pub written : AreWritten v old new touched
  pub bits : HasWritten (HasBitIn v (λ j. is_new (whole_at o.sizes (contents map) o.id) (whole_at o.sizes (contents m) o.id) j ≡ true)) old new touched
  pub kept : KeepsRest (contents m o.id) (contents map o.id)

-- it has been cut by so many blocks
abbrev pub HasTrimmed : Origin → Room → Room → (ℕ → Option (List ℕ)) → ℕ → Option (ℕ → Option (List ℕ)) → (ℕ → Bool) → (ℕ → Bool) → Type 0
HasTrimmed o v now m n told old new = (gone : List ℕ) × (length gone ≡ n) × Trimmed o v now m gone told old new

-- What a cut inside a level leaves of the levels: the arrays are the same, and so are the runs of each level before the last
-- that has an array.
pub record KeepsLevels (old new : Levels) : Type 0 where
  pub indirect : new.stream.indirect ≡ old.stream.indirect
  pub double : new.stream.double_indirect ≡ old.stream.double_indirect
  pub arrays : new.arrays ≡ old.arrays
  pub direct : (0 < old.stream.indirect.len) ⊎ (0 < old.stream.double_indirect.len) → new.stream.direct ≡ old.stream.direct
  pub table : 0 < old.stream.double_indirect.len → new.table ≡ old.table

-- it has been cut by so many blocks inside a level
abbrev pub HasCut : Origin → Room → Room → (ℕ → Option (List ℕ)) → ℕ → Option (ℕ → Option (List ℕ)) → (ℕ → Bool) → (ℕ → Bool) → Type 0
HasCut o v now m n told old new = (one : HasTrimmed o v now m n told old new) × KeepsLevels (levels_at o.sizes (contents m) o.id) (levels_at o.sizes (contents one.2.map) o.id)

-- it has been cut by so many blocks, and of what it has still the inode alone was written
abbrev pub HasDropped : Origin → Room → Room → (ℕ → Option (List ℕ)) → ℕ → Option (ℕ → Option (List ℕ)) → (ℕ → Bool) → (ℕ → Bool) → Type 0
HasDropped o v now m n told old new = (one : HasTrimmed o v now m n told old new) × ((k : ℕ) → Has one.2.touched k → Has (o.id ∷ []) k)

-- the levels behind the direct one have no arrays
abbrev pub HasNoArrays : Origin → (ℕ → Option (List ℕ)) → Type 0
HasNoArrays o m = ((fields o.sizes (contents m) o.id).indirect.len ≡ 0) × ((fields o.sizes (contents m) o.id).double_indirect.len ≡ 0)

-- the size needs none of so many blocks at the stream's end
abbrev pub MayLose : Origin → (ℕ → Option (List ℕ)) → ℕ → Type 0
MayLose o m n = natural (fields o.sizes (contents m) o.id).size ≤ o.sizes.block_size * (length (places_at o.sizes (contents m) o.id) - n)

-- so many blocks of the stream stand before the runs of the last table that the double indirect level lists
abbrev pub before_last_table : Origin → (ℕ → Option (List ℕ)) → ℕ
before_last_table o m =
    length (level_blocks o.sizes (fields o.sizes (contents m) o.id).direct) + length (level_blocks o.sizes (levels_at o.sizes (contents m) o.id).table)
    + array_length o.sizes * (table_length o.sizes * (length (second_arrays o.sizes (contents m) o.id) - 1))

-- a cut by so many blocks lies inside a level: there are no arrays, or the last of them keeps a run
abbrev pub HasSpare : Origin → (ℕ → Option (List ℕ)) → ℕ → Type 0
HasSpare o m n =
    HasNoArrays o m
    ⊎ ((((fields o.sizes (contents m) o.id).double_indirect.len ≡ 0) × (length (level_blocks o.sizes (fields o.sizes (contents m) o.id).direct) + n < length (places_at o.sizes (contents m) o.id)))
    ⊎ ((0 < (fields o.sizes (contents m) o.id).double_indirect.len) × (before_last_table o m + n < length (places_at o.sizes (contents m) o.id))))

-- No array names nothing: the levels behind the direct one have an array only where they have blocks, and a run is used in
-- the last table that the double indirect level lists.
pub record HasNoEmpty (o : Origin) (m : ℕ → Option (List ℕ)) : Type 0 where
  pub indirect : ((fields o.sizes (contents m) o.id).indirect.len ≡ 0) ⊎ (0 < length (level_blocks o.sizes (levels_at o.sizes (contents m) o.id).table))
  pub double : ((fields o.sizes (contents m) o.id).double_indirect.len ≡ 0) ⊎ UsesDouble o m
  pub tables : 0 < length (second_arrays o.sizes (contents m) o.id) → table_length o.sizes * (length (second_arrays o.sizes (contents m) o.id) - 1) < length (used_runs (levels_at o.sizes (contents m) o.id).runs)

-- why nothing is taken of so many blocks: they are none, or the stream has none, or they are fewer than a run under double
-- indirect has
abbrev pub IsAtEnd : Origin → (ℕ → Option (List ℕ)) → (ℕ → Option (List ℕ)) → ℕ → Type 0
IsAtEnd o m now most = (most ≡ 0) ⊎ ((length (places_at o.sizes (contents m) o.id) ≡ 0) ⊎ ((most < array_length o.sizes) × UsesDouble o now))

-- It has been cut to its first blocks, so many: where it had no more, none is gone; else at least so many are left, and
-- fewer than the blocks of an array more, which are none where the double indirect level has no blocks; and no array is
-- left that names nothing.
pub record HasTrimmedTo (o : Origin) (v now : Room) (m : ℕ → Option (List ℕ)) (blocks : ℕ) (told : Option (ℕ → Option (List ℕ))) (old new : ℕ → Bool) : Type 0 where
  pub gone : List ℕ
  pub trimmed : Trimmed o v now m gone told old new
  pub few : length (places_at o.sizes (contents m) o.id) ≤ blocks → gone ≡ []
  pub enough : blocks ≤ length (places_at o.sizes (contents m) o.id) → blocks ≤ length (places_at o.sizes (contents trimmed.map) o.id)
  pub most : blocks ≤ length (places_at o.sizes (contents m) o.id) → length (places_at o.sizes (contents trimmed.map) o.id) < blocks + array_length o.sizes
  pub exact : blocks ≤ length (places_at o.sizes (contents m) o.id) → ¬ UsesDouble o trimmed.map → length (places_at o.sizes (contents trimmed.map) o.id) ≡ blocks
  pub empty : blocks < length (places_at o.sizes (contents m) o.id) → HasNoEmpty o trimmed.map

-- a block that was the stream's and is so no more holds what it held, and the call hasn't changed it
abbrev pub LeavesGiven : Origin → (ℕ → Option (List ℕ)) → (ℕ → Option (List ℕ)) → (ℕ → Bool) → (ℕ → Bool) → Type 0
LeavesGiven o m n old new = (k : ℕ) → Has (whole_at o.sizes (contents m) o.id) k → times k (whole_at o.sizes (contents n) o.id) ≡ 0 → (n k ≡ m k) × (new k ≡ true → old k ≡ true)
