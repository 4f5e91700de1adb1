-- An entry of the log: a block that counts runs and lists them, and why one is malformed.
use Rattle.std.specs.Prelude.{◌≡◌, ◌⊎◌, ◌<◌, ◌≤◌, ◌≤ℤ◌, ◌<ℤ◌, ℕ, ℤ, pos, zero, suc, ◌+◌, ◌-◌, ◌*◌, ◌/◌, ◌%◌, ◌^◌, List, [], ◌∷◌, ◌++◌, length, map, replicate, All}
use Rattle.std.specs.List.{flat_map}
use Rattle.bfs_base.specs.Lists.{counted_from}
use Rattle.bfs_bytes.specs.declared.Run.{Run}
use Rattle.bfs_bytes.specs.Fields.{signed32_at, run_in, signed32_bytes, run_bytes}
use Rattle.bfs_super.specs.declared.sup.Super.{Super}
use Rattle.bfs_super.specs.declared.geometry.Geometry.{Geometry}
use Rattle.bfs_super.specs.Conditions.{natural, IsValid}
use Rattle.bfs_super.specs.Geometry.{geometry_of}
use Rattle.bfs_log.specs.declared.entry.Place.{Place}
use Rattle.bfs_log.specs.declared.entry.EntryFault.{EntryFault}
use Rattle.bfs_log.specs.declared.entry.EntryFault.TheVariants.{Count, RunPlace, PastEnd}
use Rattle.bfs_log.specs.Ring.{in_use}

-- the geometry is that of a superblock
abbrev pub IsOfSuper : Geometry → Type 0
IsOfSuper g = (s : Super) × IsValid s × (g ≡ geometry_of s)

-- a place in the log of such a volume, and the log's end
pub record IsPlace (p : Place) : Type 0 where
  pub geometry : IsOfSuper p.geometry
  pub length : p.length ≡ p.geometry.log.len
  pub start : p.start < p.length
  pub end : p.end < p.length

-- the first block of a run
abbrev pub first_of : Geometry → Run → ℕ
first_of g run = natural run.group * 2 ^ g.shift + run.start

-- the log's first block
abbrev pub log_first : Geometry → ℕ
log_first g = first_of g g.log

-- a run that an entry may name: it lies in its group and in the volume, and has neither block 0 nor one of the log
pub record HasPlace (g : Geometry) (run : Run) : Type 0 where
  pub some : 0 < run.len
  pub group_low : pos 0 ≤ℤ run.group
  pub group_high : run.group <ℤ pos g.groups
  pub inside : run.start + run.len ≤ 2 ^ g.shift
  pub volume : first_of g run + run.len ≤ g.blocks
  pub not_zero : 0 < first_of g run
  pub apart : (first_of g run + run.len ≤ log_first g) ⊎ (log_first g + g.log.len ≤ first_of g run)

-- count and max_runs of an array block
abbrev pub count_in : List ℕ → ℤ
count_in block = signed32_at block 0

abbrev pub max_in : List ℕ → ℤ
max_in block = signed32_at block 4

-- so many runs from a byte on
abbrev pub runs_from : ℕ → ℕ → List ℕ → List Run
runs_from zero at block = []
runs_from (suc n) at block = run_in block at ∷ runs_from n (at + 8) block

-- the runs of an array block
abbrev pub runs_of : List ℕ → List Run
runs_of block = runs_from (natural (count_in block)) 8 block

-- the blocks of runs, one after the other
abbrev pub blocks_in : Geometry → List Run → List ℕ
blocks_in g runs = flat_map (λ run. counted_from (first_of g run) run.len) runs

-- how many blocks of the log an entry takes: its array block, and one for each block that it names
abbrev pub entry_size : Geometry → List ℕ → ℕ
entry_size g block = 1 + length (blocks_in g (runs_of block))

-- a count of 1 to 127, and a max_runs of at least the count and at most 127
abbrev pub AreCounts : ℤ → ℤ → Type 0
AreCounts count max_runs = (pos 1 ≤ℤ count) × (count ≤ℤ pos 127) × (count ≤ℤ max_runs) × (max_runs ≤ℤ pos 127)

abbrev pub HasCount : List ℕ → Type 0
HasCount block = AreCounts (count_in block) (max_in block)

abbrev pub HasPlaces : Geometry → List ℕ → Type 0
HasPlaces g block = All (HasPlace g) (runs_of block)

-- the first of these runs that an entry may not name
pub record IsFirstBad (g : Geometry) (runs : List Run) (run : Run) : Type 0 where
  pub front : List Run
  pub back : List Run
  pub parts : runs ≡ front ++ run ∷ back
  pub good : All (HasPlace g) front
  pub bad : HasPlace g run → ⊥

-- an entry stands in this array block, at this place
pub record IsEntry (p : Place) (block : List ℕ) : Type 0 where
  pub count : HasCount block
  pub places : HasPlaces p.geometry block
  pub end : entry_size p.geometry block ≤ in_use p.start p.end p.length

-- or none, by the first condition that it breaks
abbrev pub IsFault : Place → List ℕ → EntryFault → Type 0
IsFault p block (Count count max_runs) = ¬ HasCount block × (count ≡ count_in block) × (max_runs ≡ max_in block)
IsFault p block (RunPlace run) = HasCount block × IsFirstBad p.geometry (runs_of block) run
IsFault p block (PastEnd blocks room) =
    HasCount block × HasPlaces p.geometry block × (blocks ≡ entry_size p.geometry block) × (room ≡ in_use p.start p.end p.length) × (room < blocks)

-- the run of length 1 that is this block
abbrev pub run_at_block : Geometry → ℕ → Run
run_at_block g b = record { group = pos (b / 2 ^ g.shift); start = b % 2 ^ g.shift; len = 1 }

-- an entry as it is written: the count, 127, a run for each block, and zeros up to so many bytes
abbrev pub entry_bytes : Geometry → List ℕ → ℕ → List ℕ
entry_bytes g blocks size =
    signed32_bytes (pos (length blocks)) ++ signed32_bytes (pos 127) ++ flat_map run_bytes (map (run_at_block g) blocks)
    ++ replicate (size - (8 + 8 * length blocks)) 0

-- a block that an entry may name
pub record IsHome (g : Geometry) (b : ℕ) : Type 0 where
  pub not_zero : 0 < b
  pub volume : b < g.blocks
  pub apart : (b < log_first g) ⊎ (log_first g + g.log.len ≤ b)
