-- A part of one block: its bytes, and what a write of it leaves.
use Rattle.std.specs.Prelude.{◌≡◌, ◌≢◌, ◌⊎◌, ◌≤◌, ◌<◌, ◌+◌, ◌%◌, ℕ, List, length, Option, Some, slice_get, slice_index}
use Rattle.std.specs.FinMap.{get}
use Rattle.bfs_base.specs.Lists.{times}
use Rattle.bfs_disk.specs.State.{State}
use Rattle.bfs_disk.specs.Blocks.{contents_of}
use Rattle.bfs_tree.specs.Histories.{Mounted, state_after}
use Rattle.bfs_device.specs.Books.{Books}
use Rattle.bfs_core.specs.Spaces.{SpaceView, IsFaceData, face}
use Rattle.bfs_core.specs.Cores.{newest_map}
use Rattle.bfs_core.specs.KnownBytes.{block_at}

-- byte k of the part is in the block, skip bytes behind its start
abbrev pub IsPartOf : List ℕ → ℕ → List ℕ → Type 0
IsPartOf block skip bytes = (k : ℕ) → k < length bytes → slice_get block (skip + k) ≡ Some (slice_index bytes k)

-- no byte of this part of the block is known
abbrev pub IsClear : Mounted → SpaceView → (ℕ → Option (List ℕ)) → ℕ → ℕ → ℕ → Type 0
IsClear t0 sp m block skip count = (id place byte : ℕ) → get (state_after t0 sp.history).known (id, place) ≡ Some byte → block_at (face sp m) id place ≡ Some block
    → (place % sp.sup.block_size < skip) ⊎ (skip + count ≤ place % sp.sup.block_size)

-- the block is file data in Face, and no byte of this part of it is known
abbrev pub MayWrite : Mounted → SpaceView → Books → Option State → ℕ → ℕ → ℕ → Type 0
MayWrite t0 sp b told block skip count = (st : State) → told ≡ Some st → IsFaceData t0 sp (newest_map b st) block × IsClear t0 sp (newest_map b st) block skip count

-- the device tells of each other block what it told
abbrev pub TellsBut : ℕ → Books → Books → Option State → Option State → Type 0
TellsBut block b new told after_it = (st next : State) → told ≡ Some st → after_it ≡ Some next → (k : ℕ) → k ≢ block → newest_map new next k ≡ newest_map b st k

-- the disk reads each other block as it did
abbrev pub ReadsBut : ℕ → ℕ → Option State → Option State → Type 0
ReadsBut sectors block told after_it = (st : State) → told ≡ Some st → (next : State) × (after_it ≡ Some next) × ((k : ℕ) → k ≢ block → contents_of next sectors k ≡ contents_of st sectors k)

-- of a disk that tells since: it told before, and reads each block but these as it did
abbrev pub KeepsOthers : ℕ → List ℕ → Option State → Option State → Type 0
KeepsOthers sectors places told after_it = (next : State) → after_it ≡ Some next → (st : State) × (told ≡ Some st) × ((k : ℕ) → times k places ≡ 0 → contents_of next sectors k ≡ contents_of st sectors k)
