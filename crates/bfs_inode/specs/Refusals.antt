-- What a block has to meet to be the inode of a number, in the order in which it is tested, and the first refusal.
use Rattle.std.specs.Prelude.{◌≡◌, ◌<◌, ◌^◌, ◌%◌, ℕ, ℤ, pos, ◌+ℤ◌, ◌*ℤ◌, List, length}
use Rattle.bfs_bytes.specs.declared.Run.{Run}
use Rattle.bfs_bytes.specs.Fields.{unsigned_at, signed32_at, run_in}
use Rattle.bfs_inode.specs.declared.fault.InodeFault.{InodeFault}
use Rattle.bfs_inode.specs.declared.fault.InodeFault.TheVariants as faults

-- the number that a run has as the address of an inode: group * 2 ^ shift + start
abbrev pub number_of : Run → ℕ → ℤ
number_of run shift = (run.group *ℤ pos (2 ^ shift)) +ℤ pos run.start

-- the run is the address of the inode with this number
pub record Names (run : Run) (number shift : ℕ) : Type 0 where
  pub one : run.len ≡ 1
  pub inside : run.start < 2 ^ shift
  pub block : number_of run shift ≡ pos number

abbrev pub HasMagic : List ℕ → Type 0
HasMagic block = signed32_at block 0 ≡ pos 0x3bbe0ad9

abbrev pub HasNumber : List ℕ → ℕ → ℕ → Type 0
HasNumber block number shift = Names (run_in block 4) number shift

-- the lowest bit of the flags
abbrev pub IsInUse : List ℕ → Type 0
IsInUse block = unsigned_at 4 block 24 % 2 ≡ 1

abbrev pub HasSize : List ℕ → Type 0
HasSize block = signed32_at block 64 ≡ pos (length block)

-- the block is the inode of this number, in use
pub record IsInode (block : List ℕ) (number shift : ℕ) : Type 0 where
  pub magic : HasMagic block
  pub number_is : HasNumber block number shift
  pub in_use : IsInUse block
  pub size : HasSize block

-- the refusal is the first in order: what stands before it holds, and its own condition doesn't
abbrev pub IsRefusal : List ℕ → ℕ → ℕ → InodeFault → Type 0
IsRefusal block number shift (faults.Magic found) = ¬ HasMagic block × (found ≡ signed32_at block 0)
IsRefusal block number shift (faults.Number found) =
    HasMagic block × ¬ HasNumber block number shift × (found ≡ number_of (run_in block 4) shift)
IsRefusal block number shift (faults.NotInUse flags) =
    HasMagic block × HasNumber block number shift × ¬ IsInUse block × (flags ≡ signed32_at block 24)
IsRefusal block number shift (faults.Size found) =
    HasMagic block × HasNumber block number shift × IsInUse block × ¬ HasSize block × (found ≡ signed32_at block 64)
