-- A stream whose bytes are pages.
use Rattle.std.specs.Prelude.{◌≡◌, ◌≤◌, ℕ, pos, List, [], length, Option, Some, None, IsSome}
use Rattle.std.specs.Borrow.{Bor}
use Rattle.std.specs.Option.{ForSome}
use Rattle.bfs_bitmap.specs.Runs.{Room}
use Rattle.bfs_stream.specs.Sizes.{Origin}
use Rattle.bfs_stream.specs.Places.{fields, places_at, bytes_at}
use Rattle.bfs_stream.specs.Told.{contents, AreTold, Stands}
use Rattle.bfs_stream.specs.Grown.{Owns}
use Rattle.bfs_stream.specs.declared.fault.GrowFault.{GrowFault}

-- The stream stands and owns its blocks; they are told; and it has so many bytes. Of free blocks nothing need be told.
pub record Held (o : Origin) (v : Room) (long : ℕ) (m : ℕ → Option (List ℕ)) : Type 0 where
  pub owns : Owns o v [] m
  pub told : AreTold m (places_at o.sizes (contents m) o.id)
  pub size : (fields o.sizes (contents m) o.id).size ≡ pos long

-- The stream stands, its blocks are told, and it has so many bytes.
pub record IsReadable (o : Origin) (long : ℕ) (m : ℕ → Option (List ℕ)) : Type 0 where
  pub stands : Stands o m
  pub told : AreTold m (places_at o.sizes (contents m) o.id)
  pub size : (fields o.sizes (contents m) o.id).size ≡ pos long

-- the stream's bytes
abbrev pub stream_of : Origin → (ℕ → Option (List ℕ)) → List ℕ
stream_of o m = bytes_at o.sizes (contents m) o.id

-- what is known: what is told, where anything was at the start, as long as no page that was to be added failed
abbrev pub known : Option GrowFault → Option (ℕ → Option (List ℕ)) → Option (ℕ → Option (List ℕ)) → Option (ℕ → Option (List ℕ))
known (Some fault) start told = None
known None None told = None
known None (Some m) told = told

-- where something was told at the start, something is told now
abbrev pub Tells : Option GrowFault → Option (ℕ → Option (List ℕ)) → Option (ℕ → Option (List ℕ)) → Type 0
Tells failed start told = failed ≡ None → IsSome start → IsSome told

-- these are the bytes that are told of a block, where any are
abbrev pub AreBytesOf : Option (ℕ → Option (List ℕ)) → ℕ → List ℕ → Type 0
AreBytesOf told k bytes = (m : ℕ → Option (List ℕ)) → told ≡ Some m → (b : List ℕ) → m k ≡ Some b → bytes ≡ b

-- as many bytes as the shortest block has
abbrev pub HasInodeLength : List ℕ → Type 0
HasInodeLength bytes = 1024 ≤ length bytes

-- the bytes of the block of a stream's inode
abbrev pub IsInodeOf : Origin → Option (ℕ → Option (List ℕ)) → List ℕ → Type 0
IsInodeOf o told bytes = HasInodeLength bytes × AreBytesOf told o.id bytes

-- where the bytes of the inode's block are given, they are those told of it
pub record HasInode (o : Origin) (inode : Option (Bor (List ℕ))) (m : ℕ → Option (List ℕ)) : Type 0 where
  pub is : ForSome inode (λ b. ForSome (m o.id) (λ told. b.now ≡ told))
