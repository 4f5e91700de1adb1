-- What each step of writing or adding a page leaves.
use Rattle.std.specs.Prelude.{◌≡◌, ◌≤◌, ◌<◌, ◌⊎◌, ℕ, List, ◌++◌, length, take, drop, Bool, true, false, Option, Some, IsSome, slice_get}
use Rattle.std.specs.List.{flat_map}
use Rattle.bfs_base.specs.Lists.{times, Has}
use Rattle.bfs_bitmap.specs.Runs.{Room}
use Rattle.bfs_txn.specs.Pages.{with_page}
use Rattle.bfs_txn.specs.Told.{StaysChanged, with_block, with_number}
use Rattle.bfs_stream.specs.Sizes.{Origin}
use Rattle.bfs_stream.specs.Places.{places_at, whole_at}
use Rattle.bfs_stream.specs.Told.{contents, AreTold}
use Rattle.bfs_stream.specs.Scans.{IsDamage}
use Rattle.bfs_stream.specs.Grown.{AreWritten}
use Rattle.bfs_stream.specs.declared.fault.GrowFault.{GrowFault}
use Rattle.bfs_stream.specs.declared.fault.GrowFault.TheVariants as grow
use Rattle.bfs_stream_pages.specs.Held.{Held, stream_of}
use Rattle.bfs_stream_pages.specs.Moves.{ChangesFresh, Moved}

-- a block could not be had, and none is damaged
abbrev pub IsUndamaged : GrowFault → Type 0
IsUndamaged (grow.NoRun wanted free) = ⊥
IsUndamaged (grow.Full room) = ⊥
IsUndamaged (grow.Block fault) = ¬ IsDamage fault

-- all bytes of the stream's blocks, also those behind its size
abbrev pub all_of : Origin → (ℕ → Option (List ℕ)) → List ℕ
all_of o m = flat_map (contents m) (places_at o.sizes (contents m) o.id)

-- what is told now: the stream is held, with so many bytes, and the volume has moved on; what was changed stays so, and fresh
-- blocks are changed
pub record Comes (o : Origin) (v now : Room) (long : ℕ) (m : ℕ → Option (List ℕ)) (told : Option (ℕ → Option (List ℕ))) (old new : ℕ → Bool) : Type 0 where
  pub map : ℕ → Option (List ℕ)
  pub is : told ≡ Some map
  pub held : Held o now long map
  pub moved : Moved o v now m map
  pub written : AreWritten v old new (whole_at o.sizes (contents map) o.id)
  pub stays : StaysChanged old new
  pub fresh : ChangesFresh o m map new

-- the stream's block at a place has these bytes; or it has none there, and nothing has changed
abbrev pub HasFilled : Origin → (ℕ → Option (List ℕ)) → ℕ → List ℕ → Option (ℕ → Option (List ℕ)) → (ℕ → Bool) → (ℕ → Bool) → Bool → Type 0
HasFilled o m index bytes told old new true = (n : ℕ) × (slice_get (places_at o.sizes (contents m) o.id) index ≡ Some n) × (told ≡ Some (with_block n bytes m)) × ((k : ℕ) → new k ≡ with_number n old k)
HasFilled o m index bytes told old new false = (length (places_at o.sizes (contents m) o.id) ≤ index) × (told ≡ Some m) × (new ≡ old)

-- The stream's blocks before a place are told now; what was written are blocks of it, all those from an earlier place on.
pub record IsToldTo (o : Origin) (m : ℕ → Option (List ℕ)) (index at : ℕ) (told : Option (ℕ → Option (List ℕ))) (old new : ℕ → Bool) : Type 0 where
  pub map : ℕ → Option (List ℕ)
  pub is : told ≡ Some map
  pub are : AreTold map (take at (places_at o.sizes (contents m) o.id))
  pub same : (k : ℕ) → times k (drop index (places_at o.sizes (contents m) o.id)) ≡ 0 → map k ≡ m k
  pub kept : (k : ℕ) → IsSome (m k) → IsSome (map k)
  pub written : (k : ℕ) → new k ≡ true → (old k ≡ true) ⊎ Has (places_at o.sizes (contents m) o.id) k
  pub stays : StaysChanged old new
  pub set : (k : ℕ) → Has (take at (places_at o.sizes (contents m) o.id)) k → times k (take index (places_at o.sizes (contents m) o.id)) ≡ 0 → new k ≡ true

-- all of the stream's blocks are told now
abbrev pub IsToldWhole : Origin → (ℕ → Option (List ℕ)) → ℕ → Option (ℕ → Option (List ℕ)) → (ℕ → Bool) → (ℕ → Bool) → Type 0
IsToldWhole o m index told old new = IsToldTo o m index (length (places_at o.sizes (contents m) o.id)) told old new

-- the stream has a block at a place, and perhaps more bytes behind those that it had
pub record HasRoom (o : Origin) (v now : Room) (long : ℕ) (m : ℕ → Option (List ℕ)) (index : ℕ) (told : Option (ℕ → Option (List ℕ))) (old new : ℕ → Bool) : Type 0 where
  pub comes : Comes o v now long m told old new
  pub inside : index < length (places_at o.sizes (contents comes.map) o.id)
  pub rest : List ℕ
  pub bytes : all_of o comes.map ≡ all_of o m ++ rest

-- a page stands at a place of the stream's blocks
pub record HasWritten (o : Origin) (v : Room) (long : ℕ) (m : ℕ → Option (List ℕ)) (at : ℕ) (page : List ℕ) (told : Option (ℕ → Option (List ℕ))) (old new : ℕ → Bool) : Type 0 where
  pub comes : Comes o v v long m told old new
  pub places : places_at o.sizes (contents comes.map) o.id ≡ places_at o.sizes (contents m) o.id
  pub bytes : all_of o comes.map ≡ with_page at page (all_of o m)

-- the stream has another size
pub record HasSize (o : Origin) (v : Room) (long : ℕ) (m : ℕ → Option (List ℕ)) (told : Option (ℕ → Option (List ℕ))) (old new : ℕ → Bool) : Type 0 where
  pub comes : Comes o v v long m told old new
  pub bytes : all_of o comes.map ≡ all_of o m

-- a page stands behind the stream's bytes
pub record HasAdded (o : Origin) (v now : Room) (long : ℕ) (m : ℕ → Option (List ℕ)) (page : List ℕ) (told : Option (ℕ → Option (List ℕ))) (old new : ℕ → Bool) : Type 0 where
  pub comes : Comes o v now long m told old new
  pub bytes : stream_of o comes.map ≡ stream_of o m ++ page
