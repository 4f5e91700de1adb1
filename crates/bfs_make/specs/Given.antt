-- An inode that is given back with all its blocks, in three steps.
use Rattle.std.specs.Prelude.{◌≡◌, ◌<◌, ℕ, pos, ◌==◌, ◌||◌, List, [], ◌∷◌, Option, Some, Bool, not, if◌then◌else◌}
use Rattle.bfs_base.specs.Lists.{times}
use Rattle.bfs_bitmap.specs.Runs.{Room, Fits, IsCounted, per_block, is_free, is_reserved, marked}
use Rattle.bfs_stream.specs.Sizes.{Origin}
use Rattle.bfs_stream.specs.Places.{fields, whole_at}
use Rattle.bfs_stream.specs.Told.{contents}
use Rattle.bfs_stream.specs.Grown.{Owns, IsOutside, AreWritten, is_new}
use Rattle.bfs_stream.specs.Trimmed.{AreMarked}

-- The stream has no bytes since, and all of its blocks; nothing but the inode has changed.
pub record HasEmptied (o : Origin) (v : Room) (m : ℕ → Option (List ℕ)) (told : Option (ℕ → Option (List ℕ))) (old new : ℕ → Bool) : Type 0 where
  pub map : ℕ → Option (List ℕ)
  pub is : told ≡ Some map
  pub owns : Owns o v [] map
  pub whole : whole_at o.sizes (contents map) o.id ≡ whole_at o.sizes (contents m) o.id
  pub size : (fields o.sizes (contents map) o.id).size ≡ pos 0
  pub others : (k : ℕ) → times k (o.id ∷ []) ≡ 0 → map k ≡ m k
  pub written : AreWritten v old new (o.id ∷ [])

-- Of the stream the inode is left: its other blocks have no bit set and are reserved; no other bit changed, and nothing else is
-- reserved; the same blocks are free; but for bits and the inode nothing changed, block 0 among the rest; and where its blocks
-- were used, a right count of the used blocks stays right.
pub record HasStripped (o : Origin) (v now : Room) (m : ℕ → Option (List ℕ)) (told : Option (ℕ → Option (List ℕ))) (old new : ℕ → Bool) : Type 0 where
  pub map : ℕ → Option (List ℕ)
  pub is : told ≡ Some map
  pub owns : Owns o now [] map
  pub whole : whole_at o.sizes (contents map) o.id ≡ o.id ∷ []
  pub reserved : (k : ℕ) → is_reserved now.given k ≡ (is_reserved v.given k || is_new (o.id ∷ []) (whole_at o.sizes (contents m) o.id) k)
  pub marks : (k : ℕ) → k < v.blocks → marked (per_block v) map k ≡ (if is_new (o.id ∷ []) (whole_at o.sizes (contents m) o.id) k then 0 else marked (per_block v) m k)
  pub counted : AreMarked v (whole_at o.sizes (contents m) o.id) m → IsCounted v m → IsCounted now map
  pub free : (k : ℕ) → is_free now map k ≡ is_free v m k
  pub others : (k : ℕ) → IsOutside v k → times k (o.id ∷ []) ≡ 0 → map k ≡ m k
  pub first : times 0 (o.id ∷ []) ≡ 0 → map 0 ≡ m 0
  pub written : AreWritten v old new (o.id ∷ [])

-- An inode was given back with its array blocks and the blocks of its stream: none of them has its bit set, and all are reserved;
-- no other bit changed, and nothing else is reserved; the same blocks are free; but for bits and the inode nothing changed,
-- block 0 among the rest; and where its blocks were used, a right count of the used blocks stays right.
pub record HasGivenBack (o : Origin) (v now : Room) (m : ℕ → Option (List ℕ)) (told : Option (ℕ → Option (List ℕ))) (old new : ℕ → Bool) : Type 0 where
  pub map : ℕ → Option (List ℕ)
  pub is : told ≡ Some map
  pub fits : Fits now map
  pub reserved : (k : ℕ) → is_reserved now.given k ≡ (is_reserved v.given k || not (times k (whole_at o.sizes (contents m) o.id) == 0))
  pub marks : (k : ℕ) → k < v.blocks → marked (per_block v) map k ≡ (if times k (whole_at o.sizes (contents m) o.id) == 0 then marked (per_block v) m k else 0)
  pub counted : AreMarked v (whole_at o.sizes (contents m) o.id) m → IsCounted v m → IsCounted now map
  pub free : (k : ℕ) → is_free now map k ≡ is_free v m k
  pub others : (k : ℕ) → IsOutside v k → times k (o.id ∷ []) ≡ 0 → map k ≡ m k
  pub first : times 0 (o.id ∷ []) ≡ 0 → map 0 ≡ m 0
  pub written : AreWritten v old new (o.id ∷ [])
