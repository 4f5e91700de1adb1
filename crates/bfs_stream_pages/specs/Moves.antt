-- What writing and adding pages changes of a volume.
use Rattle.std.specs.Prelude.{◌≡◌, ◌<◌, ℕ, ◌==◌, ◌&&◌, List, [], ◌++◌, Bool, true, Option, if◌then◌else◌}
use Rattle.bfs_base.specs.Lists.{times, Has}
use Rattle.bfs_bitmap.specs.Runs.{Room, IsCounted, per_block, is_free, marked}
use Rattle.bfs_inode.specs.Inode.{KeepsOutside, inode_at}
use Rattle.bfs_stream.specs.Sizes.{Origin}
use Rattle.bfs_stream.specs.Places.{places_at, frame_at, whole_at}
use Rattle.bfs_stream.specs.Told.{contents}
use Rattle.bfs_stream.specs.Grown.{Owns, IsOutside, is_new}

-- the fields of the inode beside its stream are the same, and so is each byte beside the stream's
abbrev pub KeepsInode : List ℕ → List ℕ → Type 0
KeepsInode old new = (inode_at new ≡ record (inode_at old) { stream_bytes = (inode_at new).stream_bytes }) × KeepsOutside old new

-- each block that the stream has now and had not is changed
abbrev pub ChangesFresh : Origin → (ℕ → Option (List ℕ)) → (ℕ → Option (List ℕ)) → (ℕ → Bool) → Type 0
ChangesFresh o m map new = (k : ℕ) → Has (whole_at o.sizes (contents map) o.id) k → times k (whole_at o.sizes (contents m) o.id) ≡ 0 → new k ≡ true

-- Pages were written, or added: the stream has its blocks, and perhaps fresh ones behind them; what it has now and had not
-- was free, and its bit is set; no other bit changed; what is free now was free and is not in it; but for its own blocks and
-- bits nothing changed, block 0 among the rest; of the inode the stream alone; and a right count of the used blocks stays
-- right.
pub record Moved (o : Origin) (v now : Room) (m map : ℕ → Option (List ℕ)) : Type 0 where
  pub rest : now ≡ record v { tally = now.tally }
  pub owns : Owns o now [] map
  pub fresh : List ℕ
  pub places : places_at o.sizes (contents map) o.id ≡ places_at o.sizes (contents m) o.id ++ fresh
  pub keeps : (k : ℕ) → Has (frame_at o.sizes (contents m) o.id) k → Has (frame_at o.sizes (contents map) o.id) k
  pub were_free : (k : ℕ) → Has (whole_at o.sizes (contents map) o.id) k → times k (whole_at o.sizes (contents m) o.id) ≡ 0 → is_free v m k ≡ true
  pub free : (k : ℕ) → is_free now map k ≡ (is_free v m k && (times k (whole_at o.sizes (contents map) o.id) == 0))
  pub marks : (k : ℕ) → k < v.blocks → marked (per_block v) map k ≡ (if is_new (whole_at o.sizes (contents m) o.id) (whole_at o.sizes (contents map) o.id) k then 1 else marked (per_block v) m k)
  pub counted : IsCounted v m → IsCounted now map
  pub others : (k : ℕ) → IsOutside v k → times k (whole_at o.sizes (contents map) o.id) ≡ 0 → map k ≡ m k
  pub first : times 0 (whole_at o.sizes (contents map) o.id) ≡ 0 → map 0 ≡ m 0
  pub kept : KeepsInode (contents m o.id) (contents map o.id)
