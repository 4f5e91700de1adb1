-- What is wrong with an inode, its small data, its name and parent, its rows and its attributes.
use Rattle.std.specs.Prelude.{◌≡◌, ◌≢◌, ◌≤◌, ◌<◌, ◌⊎◌, ◌/◌, ◌%◌, ℕ, ℤ, pos, negsuc, List, ◌∷◌, ◌++◌, length, take, drop, Option, Some, None, true, ◌==◌, count_by, codes, if◌then◌else◌}
use Rattle.std.specs.List.{before_first}
use Rattle.std.specs.Str.{bytes_eq}
use Rattle.bfs_base.specs.declared.kind.KeyKind.TheVariants.{Text}
use Rattle.bfs_bytes.specs.Fields.{signed32_at, run_in}
use Rattle.bfs_inode.specs.declared.fault.InodeFault.{InodeFault}
use Rattle.bfs_inode.specs.declared.fault.InodeFault.TheVariants as faults
use Rattle.bfs_inode.specs.Refusals.{IsRefusal, Names, number_of}
use Rattle.bfs_pages.specs.Maps.{assoc}
use Rattle.bfs_smalldata.specs.Items.{Item, items_of, sizes_of, RunsPast}
use Rattle.bfs_smalldata.specs.Edits.{named}
use Rattle.bfs_tree.specs.declared.call.Kind.{Kind}
use Rattle.bfs_tree.specs.declared.call.Kind.TheVariants.{Dir, Link}
use Rattle.bfs_tree.specs.Names.{is_bad_name}
use Rattle.bfs_values.specs.Rows.{rows_in}
use Rattle.bfs_sound.specs.Volumes.{Volume}
use Rattle.bfs_sound.specs.Inodes.{HasBit, kind_bits, mode_bits, is_short, content, proper_rows}
use Rattle.bfs_sound.specs.Attributes.{own_name, is_name_item, attributes_in, attribute_directory, attributes_of}
use Rattle.bfs_sound.specs.Owners.{In}
use Rattle.bfs_finding.specs.declared.finding.InodePart.{InodePart}
use Rattle.bfs_finding.specs.declared.finding.InodePart.TheVariants as parts
use Rattle.bfs_finding.specs.Ways.{Way, to_system, to_root, to_child, to_directory, to_attribute, to_indices, to_index, says, IsReached, Arrives, HasNames}

-- the first of an inode's fields that is wrong, and what was found there
abbrev pub IsFieldOf : InodeFault → InodePart → ℤ → Type 0
IsFieldOf (faults.Magic value) part found = (part ≡ parts.Magic) × (found ≡ value)
IsFieldOf (faults.Number value) part found = (part ≡ parts.Number) × (found ≡ value)
IsFieldOf (faults.NotInUse flags) part found = (part ≡ parts.Flags) × (found ≡ flags)
IsFieldOf (faults.Size value) part found = (part ≡ parts.Size) × (found ≡ value)

-- the four bits of a mode name no kind of a node
abbrev pub HasNoKind : Volume → ℕ → Type 0
HasNoKind v b = (kind : Kind) → mode_bits v b / 4096 % 16 ≢ kind_bits kind

-- the mode of an inode isn't one for its place: the root is a directory, a node has a kind, an attribute directory, an attribute
-- and a part of the index are marked as such
abbrev pub IsModeFault : Volume → Way → ℕ → Type 0
IsModeFault v to_system b = ⊥
IsModeFault v to_root b = mode_bits v b / 4096 % 16 ≢ kind_bits Dir
IsModeFault v (to_child d name) b = HasNoKind v b
IsModeFault v (to_directory id) b = ¬ HasBit (mode_bits v b) 27
IsModeFault v (to_attribute id name) b = ¬ HasBit (mode_bits v b) 28
IsModeFault v to_indices b = ¬ HasBit (mode_bits v b) 29
IsModeFault v (to_index name) b = ¬ HasBit (mode_bits v b) 29

-- the bytes of a node's small data, and of a short link's 144 bytes those before the first zero
abbrev pub area_of : Volume → ℕ → List ℕ
area_of v b = drop 232 (v.blocks b)

abbrev pub target_of : Volume → ℕ → List ℕ
target_of v b = before_first (λ x. x == 0) (take 144 (drop 72 (v.blocks b)))

-- at this place of the small data an item runs past it, or has a name of more than 255 bytes
pub data IsAreaFault (v : Volume) (b : ℕ) : ℕ → Type 0 where
  runs_past : (at : ℕ) → RunsPast (area_of v b) at → IsAreaFault v b at
  long_name : (front : List Item) (item : Item) (back : List Item) (at : ℕ) → items_of (area_of v b) ≡ Some (front ++ (item ∷ back)) → at ≡ sizes_of front → 255 < length item.name → IsAreaFault v b at

-- inode: the first field that is wrong of an inode to which a way leads; its mode; of a node its small data, with the place of
-- the item; of a short link its target, which has no zero among its 144 bytes
pub data IsInodeFault (v : Volume) (b : ℕ) (part : InodePart) (found : ℤ) : Type 0 where
  of_field : (way : Way) (fault : InodeFault) → way ≢ to_system → Arrives v way b → IsRefusal (v.blocks b) b v.geometry.shift fault → IsFieldOf fault part found → IsInodeFault v b part found
  of_mode : (way : Way) → Arrives v way b → IsModeFault v way b → part ≡ parts.Mode → found ≡ signed32_at (v.blocks b) 20 → IsInodeFault v b part found
  of_area : (at : ℕ) → IsReached v b → IsAreaFault v b at → part ≡ parts.SmallData → found ≡ pos at → IsInodeFault v b part found
  of_target : IsReached v b → says v b Link ≡ true → is_short v b ≡ true → 144 ≤ length (target_of v b) → part ≡ parts.Target → found ≡ pos 144 → IsInodeFault v b part found

-- the bytes of the item with a node's own name, or nothing where that is missing
abbrev pub own_bytes : Option Item → Option (List ℕ)
own_bytes None = None
own_bytes (Some item) = if is_name_item item then Some item.bytes else None

-- name: a row of a directory and the item with the node's own name differ, or the row's name is bad
pub record IsNameFault (v : Volume) (id : ℕ) (row : List ℕ) (item : Option (List ℕ)) : Type 0 where
  pub parent : ℕ
  pub there : Arrives v (to_child parent row) id
  pub items : List Item
  pub area : items_of (area_of v id) ≡ Some items
  pub item_is : item ≡ own_bytes (named own_name items)
  pub wrong : (item ≢ Some row) ⊎ (is_bad_name row ≡ true)

-- the directory whose row names a node; of the root it is the root
abbrev pub ComesFrom : Volume → ℕ → ℕ → Type 0
ComesFrom v id d = ((id ≡ v.geometry.root) × (d ≡ v.geometry.root)) ⊎ ((name : List ℕ) × Arrives v (to_child d name) id)

-- the row of a directory with this name: its value, or 0 where it isn't there
abbrev pub row_value : Volume → ℕ → List ℕ → Option ℤ
row_value v id name = assoc Text (rows_in Text (content v id)) name

abbrev pub or_zero : Option ℤ → ℤ
or_zero None = pos 0
or_zero (Some z) = z

-- parent: the run in a node names another block than that of the directory whose row names the node, or this block by a run that
-- is none of an inode (-1); the row `.` of a directory doesn't name itself, or `..` not the directory whose row names it
pub data IsParentFault (v : Volume) (id : ℕ) (found : ℤ) (wanted : ℕ) : Type 0 where
  of_block : (name : List ℕ) → Arrives v (to_child wanted name) id → found ≡ number_of (run_in (v.blocks id) 44) v.geometry.shift → found ≢ pos wanted → IsParentFault v id found wanted
  of_run : (name : List ℕ) → Arrives v (to_child wanted name) id → number_of (run_in (v.blocks id) 44) v.geometry.shift ≡ pos wanted → ¬ Names (run_in (v.blocks id) 44) wanted v.geometry.shift → found ≡ negsuc 0 → IsParentFault v id found wanted
  of_dot : IsReached v id → says v id Dir ≡ true → wanted ≡ id → row_value v id (codes ".") ≢ Some (pos wanted) → found ≡ or_zero (row_value v id (codes ".")) → IsParentFault v id found wanted
  of_dots : ComesFrom v id wanted → says v id Dir ≡ true → row_value v id (codes "..") ≢ Some (pos wanted) → found ≡ or_zero (row_value v id (codes "..")) → IsParentFault v id found wanted

-- row: a row of a tree of names, but `.` and `..`, names no block of the volume
pub record IsRowFault (v : Volume) (owner : ℕ) (value : ℤ) : Type 0 where
  pub there : HasNames v owner
  pub name : List ℕ
  pub row : In (name, value) (proper_rows v owner)
  pub outside : (k : ℕ) → value ≡ pos k → v.geometry.blocks ≤ k

-- attribute: a name stands twice among a node's items, its own name too, or among its attributes, which are items and rows of the
-- attribute directory
pub record IsAttributeFault (v : Volume) (id : ℕ) (name : List ℕ) : Type 0 where
  pub there : IsReached v id
  pub items : List Item
  pub area : items_of (area_of v id) ≡ Some items
  pub twice : (2 ≤ count_by (λ (item : Item). bytes_eq item.name name) items) ⊎ (2 ≤ count_by (λ e. bytes_eq e.0 name) (attributes_in items ++ attributes_of v (attribute_directory v id)))
