-- The attribute directory of an inode, as it is read.
use Rattle.std.specs.Prelude.{◌≡◌, ◌<◌, ℕ, List, [], ◌∷◌, ◌++◌, map, true, false, Option, Some, None, nat_lt, if◌then◌else◌, pos, ◌⊎◌, IsSome}
use Rattle.std.specs.Option.{option_map}
use Rattle.std.specs.List.{filter, AllByRecursion}
use Rattle.bfs_bytes.specs.Fields.{run_in, unsigned_at}
use Rattle.bfs_node.specs.Page.{Row}
use Rattle.bfs_super.specs.Conditions.{natural}
use Rattle.bfs_super.specs.Geometry.{geometry_of}
use Rattle.bfs_super.specs.declared.sup.Super.{Super}
use Rattle.bfs_range.specs.declared.ranged.RangedRow.{RangedRow}
use Rattle.bfs_sound.specs.Attributes.{attribute_directory}
use Rattle.bfs_sound.specs.Inodes.{is_proper, id_of}
use Rattle.bfs_attr.specs.declared.directory.Directory.{Directory}
use Rattle.bfs_attr.specs.declared.directory.Directory.TheVariants.{Missing, At, Broken}
use Rattle.bfs_tree.specs.declared.rows.AttributeRow.{AttributeRow}
use Rattle.bfs_sound.specs.Volumes.{Volume}
use Rattle.bfs_attr.specs.declared.directory.Shortage.{Shortage}
use Rattle.bfs_attr.specs.declared.directory.Shortage.TheVariants.{Unsound, NoMemory}
use Rattle.bfs_attr.specs.declared.directory.Pushed.{Pushed}
use Rattle.bfs_attr.specs.declared.directory.Pushed.TheVariants.{Done, Faulty, Full}
use Rattle.bfs_attr.specs.declared.directory.InodeRow.{InodeRow}

-- the inode of the attribute directory that an inode names whose block has these bytes
abbrev pub directory_in : Super → List ℕ → Option ℕ
directory_in s block = attribute_directory (record { geometry = geometry_of s; blocks = λ k. block }) 0

-- it is missing; or it is this block of the volume; or what the inode names is no run of one block, or no block of the volume
abbrev pub IsDirectoryOf : Super → List ℕ → Directory → Type 0
IsDirectoryOf s block Missing = directory_in s block ≡ None
IsDirectoryOf s block (At d) = (directory_in s block ≡ Some d) × (d < natural s.num_blocks)
IsDirectoryOf s block Broken = (d : ℕ) × (directory_in s block ≡ Some d) × ((run_in block 52).len ≡ 1 → d < natural s.num_blocks → ⊥)

-- a row's value is the number of one of so many blocks
abbrev pub IsInodeRow : ℕ → Row → Type 0
IsInodeRow blocks row = (row.1 ≡ pos (id_of row)) × (id_of row < blocks)

-- so is each but `.` and `..`
abbrev pub AreInodes : ℕ → List Row → Type 0
AreInodes blocks rows = AllByRecursion (IsInodeRow blocks) (filter (λ row. is_proper row.0) rows)

-- the names of rows with the inodes that they name, `.` and `..` passed over
abbrev pub inode_rows : List Row → List InodeRow
inode_rows rows = map (λ row. record { name = row.0; id = id_of row }) (filter (λ row. is_proper row.0) rows)

-- the one number of a row, where it is one of so many blocks
abbrev pub one_inode : ℕ → List ℕ → Option ℕ
one_inode blocks [] = None
one_inode blocks (id ∷ []) = if nat_lt id blocks then Some id else None
one_inode blocks (id ∷ other ∷ more) = None

-- these inodes, with one more where it is one
abbrev pub before_inode : List ℕ → Option ℕ → Option (List InodeRow) → Option (List InodeRow)
before_inode name None rest = None
before_inode name (Some id) rest = option_map (λ rows. record { name = name; id = id } ∷ rows) rest

-- the inodes that rows of an answer name, or nothing where one doesn't name one of so many blocks
abbrev pub inodes_among : ℕ → List RangedRow → Option (List InodeRow)
inodes_among blocks [] = Some []
inodes_among blocks (r ∷ rs) = if is_proper r.key then before_inode r.key (one_inode blocks r.numbers) (inodes_among blocks rs) else inodes_among blocks rs

-- A row was added to these, or passed over; or it names no block of the volume.
abbrev pub IsPushed : ℕ → List InodeRow → RangedRow → List InodeRow → Pushed → Type 0
IsPushed blocks old row new Done =
    ((is_proper row.key ≡ true) × ((id : ℕ) × (one_inode blocks row.numbers ≡ Some id) × (new ≡ old ++ record { name = row.key; id = id } ∷ [])))
    ⊎ ((is_proper row.key ≡ false) × (new ≡ old))
IsPushed blocks old row new Faulty = (is_proper row.key ≡ true) × (one_inode blocks row.numbers ≡ None)
IsPushed blocks old row new Full = Unit {0}

-- why the inodes that rows of an answer name were not had: one names no block of the volume; or there is no memory for them
abbrev pub IsShort : ℕ → List RangedRow → Shortage → Type 0
IsShort blocks rows Unsound = inodes_among blocks rows ≡ None
IsShort blocks rows NoMemory = Unit {0}

-- the row of an attribute of the attribute directory: the type in its inode, and its name
abbrev pub kind_row : Volume → InodeRow → AttributeRow
kind_row v row = record { kind = unsigned_at 4 (v.blocks row.id) 60; name = row.name }

-- the inodes are told
abbrev pub AreThere : (ℕ → Option (List ℕ)) → List InodeRow → Type 0
AreThere m rows = AllByRecursion (λ row. IsSome (m row.id)) rows

-- each of these inodes is one of so many blocks
abbrev pub AreBelow : ℕ → List InodeRow → Type 0
AreBelow blocks rows = AllByRecursion (λ row. row.id < blocks) rows
