-- What a format makes, and how it ends.
use Rattle.std.specs.Prelude.{◌≤◌, ℕ, ℤ, List}
use Rattle.bfs_base.specs.Counts.{Rose}
use Rattle.bfs_base.specs.Images.{sector}
use Rattle.bfs_super.specs.declared.fault.SuperFault.{SuperFault}
use Rattle.bfs_super.specs.Conditions.{IsRefusal}
use Rattle.bfs_super.specs.Layout.{super_at}
use Rattle.bfs_super.specs.declared.geometry.Geometry.{Geometry}
use Rattle.bfs_tree.specs.Trees.{empty_tree}
use Rattle.bfs_sound.specs.Whole.{IsWhole}
use Rattle.bfs_mkfs.specs.declared.mkfs.FormatFault.{FormatFault}
use Rattle.bfs_mkfs.specs.declared.mkfs.FormatFault.TheVariants.{Disk, NoMemory}
use Rattle.bfs_mkfs.specs.Laid.{IsLaid}

-- New: the image of a new volume. It is laid out, and it is whole with the empty tree, whose times are the stamp.
pub record IsNew (g : Geometry) (label : List ℕ) (stamp : ℤ) (image : List ℕ) : Type 0 where
  pub laid : IsLaid g label stamp image
  pub whole : IsWhole image (empty_tree g.root stamp)

-- the superblock of an image is refused
abbrev pub IsRefused : List ℕ → Type 0
IsRefused image = (fault : SuperFault) × IsRefusal (super_at (sector 1 image)) fault

-- a failed disk has its cause in a count that rose in this call
abbrev pub HasCauseIn : ℕ → ℕ → FormatFault → Type 0
HasCauseIn old new (Disk before after) = (old ≤ before) × Rose before after × (after ≤ new)
HasCauseIn old new NoMemory = Unit {0}
