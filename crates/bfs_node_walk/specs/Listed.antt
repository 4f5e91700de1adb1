-- The rows of a directory that a check goes over.
use Rattle.std.specs.Prelude.{◌≡◌, ◌≢◌, ◌≤◌, ◌<◌, ℕ, ℤ, pos, List, Some, codes}
use Rattle.std.specs.List.{AllByRecursion, filter}
use Rattle.bfs_base.specs.declared.kind.KeyKind.TheVariants.{Text}
use Rattle.bfs_node.specs.Page.{Row}
use Rattle.bfs_pages.specs.Maps.{assoc}
use Rattle.bfs_values.specs.Rows.{rows_in}
use Rattle.bfs_sound.specs.Volumes.{Volume}
use Rattle.bfs_sound.specs.Inodes.{content, is_proper, proper_rows}
use Rattle.bfs_sound.specs.Owners.{In}
use Rattle.bfs_finding.specs.NodeFaults.{or_zero}
use Rattle.bfs_finding.specs.declared.finding.Finding.{Finding}
use Rattle.bfs_finding.specs.declared.finding.Finding.TheVariants as finds

-- all rows but `.` and `..`
abbrev pub proper : List Row → List Row
proper rows = filter (λ row. is_proper row.0) rows

-- a row names a block of a volume with so many
abbrev pub NamesBlock : ℕ → Row → Type 0
NamesBlock blocks row = (k : ℕ) × (row.1 ≡ pos k) × (k < blocks)

-- a row but `.` and `..` has a value that names none
pub record IsOutside (blocks : ℕ) (rows : List Row) (value : ℤ) : Type 0 where
  pub name : List ℕ
  pub there : In (name, value) (proper rows)
  pub outside : (k : ℕ) → value ≡ pos k → blocks ≤ k

-- the row with this name has another value than this number, or is missing, and this is the finding on the directory
pub record IsOtherParent (rows : List Row) (name : List ℕ) (id wanted : ℕ) (finding : Finding) : Type 0 where
  pub is : finding ≡ finds.Parent id (or_zero (assoc Text rows name)) wanted
  pub other : assoc Text rows name ≢ Some (pos wanted)

-- a directory: `.` is itself, `..` is this one, and each other row names a block of the volume
pub record IsListing (v : Volume) (d parent : ℕ) : Type 0 where
  pub dot : assoc Text (rows_in Text (content v d)) (codes ".") ≡ Some (pos d)
  pub dots : assoc Text (rows_in Text (content v d)) (codes "..") ≡ Some (pos parent)
  pub inside : AllByRecursion (NamesBlock v.geometry.blocks) (proper_rows v d)
