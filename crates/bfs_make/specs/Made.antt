-- An inode as it is made, and its stream as it is filled.
use Rattle.std.specs.Prelude.{◌≡◌, ◌⊎◌, ◌<◌, ℕ, pos, ◌-◌, ◌*◌, ◌==◌, ◌&&◌, true, false, List, [], ◌∷◌, length, take, drop, replicate, Bool, Option, Some, if◌then◌else◌}
use Rattle.bfs_base.specs.Lists.{times, Has}
use Rattle.bfs_bytes.specs.declared.Run.{Run}
use Rattle.bfs_bitmap.specs.Runs.{Room, Fits, IsCounted, per_block, is_free, marked}
use Rattle.bfs_txn.specs.Told.{with_block}
use Rattle.bfs_inode.specs.Inode.{Stream, inode_at, stream_at}
use Rattle.bfs_stream.specs.Sizes.{Origin, Sizes, first_block}
use Rattle.bfs_stream.specs.Places.{whole_at}
use Rattle.bfs_stream.specs.Told.{contents}
use Rattle.bfs_stream.specs.Grown.{Owns, IsOutside, AreWritten}
use Rattle.bfs_stream.specs.Faults.{IsNoRunFor, IsGrowFault}
use Rattle.bfs_stream.specs.declared.fault.GrowFault.{GrowFault}
use Rattle.bfs_stream_pages.specs.Held.{stream_of}
use Rattle.bfs_maps.specs.Mapped.{HasHeld}
use Rattle.bfs_make.specs.declared.making.InodeForm.{InodeForm}
use Rattle.bfs_make.specs.declared.making.NewInode.{NewInode}

abbrev pub zero_run : Run
zero_run = record { group = pos 0; start = 0; len = 0 }

-- a stream without blocks
abbrev pub no_stream : Stream
no_stream = record {
  direct = replicate 12 zero_run;
  max_direct_range = pos 0;
  indirect = zero_run;
  max_indirect_range = pos 0;
  double_indirect = zero_run;
  max_double_indirect_range = pos 0;
  size = pos 0;
}

-- an inode of a form at an address
abbrev pub formed_at : Run → InodeForm → NewInode
formed_at address form = record { address = address; parent = form.parent; mode = form.mode; flags = form.flags; kind = form.kind; stamp = form.stamp }

-- The fields of a block of so many bytes are those of an inode that is made so: it belongs to nobody, each of its stamps is the
-- call's, it bears no attributes, and its small data is empty. Nothing is said of its stream.
abbrev pub IsInodeOf : ℕ → NewInode → List ℕ → Type 0
IsInodeOf size n bytes = inode_at bytes ≡ record {
  magic1 = pos 0x3bbe0ad9;
  inode_num = n.address;
  uid = pos 0;
  gid = pos 0;
  mode = n.mode;
  flags = n.flags;
  create_time = n.stamp;
  last_modified_time = n.stamp;
  parent = n.parent;
  attributes = zero_run;
  type_code = n.kind;
  inode_size = pos size;
  etc = 0;
  stream_bytes = take 144 (drop 72 bytes);
  status_change_time = n.stamp;
  pad = replicate 8 0;
  small_data = replicate (size - 232) 0;
}

-- And the stream has no blocks.
pub record IsMade (size : ℕ) (n : NewInode) (bytes : List ℕ) : Type 0 where
  pub fields : IsInodeOf size n bytes
  pub stream : stream_at bytes ≡ no_stream

-- A stream is there that was not: all its blocks, its inode among them, were free, and are marked; no other bit changed; and but
-- for bits and its own blocks nothing changed, block 0 among the rest; and a right count of the used blocks stays right.
pub record IsNewStream (o : Origin) (v now : Room) (m map : ℕ → Option (List ℕ)) : Type 0 where
  pub rest : now ≡ record v { tally = now.tally }
  pub owns : Owns o now [] map
  pub were_free : (k : ℕ) → Has (whole_at o.sizes (contents map) o.id) k → is_free v m k ≡ true
  pub free : (k : ℕ) → is_free now map k ≡ (is_free v m k && (times k (whole_at o.sizes (contents map) o.id) == 0))
  pub marks : (k : ℕ) → k < v.blocks → marked (per_block v) map k ≡ (if times k (whole_at o.sizes (contents map) o.id) == 0 then marked (per_block v) m k else 1)
  pub counted : IsCounted v m → IsCounted now map
  pub others : (k : ℕ) → IsOutside v k → times k (whole_at o.sizes (contents map) o.id) ≡ 0 → map k ≡ m k
  pub first : map 0 ≡ m 0

-- The block at an inode's address is that inode, and nothing else has changed.
pub record HasInode (s : Sizes) (n : NewInode) (m : ℕ → Option (List ℕ)) (told : Option (ℕ → Option (List ℕ))) : Type 0 where
  pub block : List ℕ
  pub is : told ≡ Some (with_block (first_block s n.address) block m)
  pub made : IsMade s.block_size n block
  pub long : length block ≡ s.block_size

-- The bitmap is told, and none of its blocks is free.
pub record HasBits (v : Room) (m : ℕ → Option (List ℕ)) : Type 0 where
  pub fits : Fits v m
  pub bits : (k : ℕ) → per_block v * (k - 1) < v.blocks → is_free v m k ≡ false

-- An inode was made at the block of a run: its stream has no blocks. Its block is changed since.
pub record HasMade (s : Sizes) (v now : Room) (m : ℕ → Option (List ℕ)) (n : NewInode) (told : Option (ℕ → Option (List ℕ))) (old new : ℕ → Bool) : Type 0 where
  pub map : ℕ → Option (List ℕ)
  pub is : told ≡ Some map
  pub stream : IsNewStream (record { id = first_block s n.address; sizes = s }) v now m map
  pub whole : whole_at s (contents map) (first_block s n.address) ≡ first_block s n.address ∷ []
  pub inode : IsMade s.block_size n (contents map (first_block s n.address))
  pub long : length (contents map (first_block s n.address)) ≡ s.block_size
  pub written : AreWritten v old new (first_block s n.address ∷ [])
  pub entered : (k : ℕ) → Has (whole_at s (contents map) (first_block s n.address)) k → new k ≡ true

-- An inode was made at the block of a run, and its stream has these bytes. Each of its blocks is changed since.
pub record HasStored (s : Sizes) (v now : Room) (m : ℕ → Option (List ℕ)) (n : NewInode) (bytes : List ℕ) (told : Option (ℕ → Option (List ℕ))) (old new : ℕ → Bool) : Type 0 where
  pub map : ℕ → Option (List ℕ)
  pub is : told ≡ Some map
  pub stream : IsNewStream (record { id = first_block s n.address; sizes = s }) v now m map
  pub held : HasHeld (record { id = first_block s n.address; sizes = s }) now map
  pub content : stream_of (record { id = first_block s n.address; sizes = s }) map ≡ bytes
  pub inode : IsInodeOf s.block_size n (contents map (first_block s n.address))
  pub written : AreWritten v old new (whole_at s (contents map) (first_block s n.address))
  pub entered : (k : ℕ) → Has (whole_at s (contents map) (first_block s n.address)) k → new k ≡ true

-- Why it was not: there is no block for the inode; or it was made, and its stream did not grow by so many blocks.
abbrev pub IsNotStored : Sizes → Room → (ℕ → Option (List ℕ)) → ℕ → GrowFault → Type 0
IsNotStored s v m blocks fault =
    IsNoRunFor v m 1 fault
    ⊎ ((id : ℕ) × (now : Room) × (map : ℕ → Option (List ℕ)) × IsNewStream (record { id = id; sizes = s }) v now m map × IsGrowFault (record { id = id; sizes = s }) now map blocks fault)
