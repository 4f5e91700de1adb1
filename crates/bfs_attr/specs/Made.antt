-- The inodes of attribute directories and of attributes, as they are made.
use Rattle.std.specs.Prelude.{◌≡◌, ℕ, ℤ, pos}
use Rattle.bfs_bytes.specs.declared.Run.{Run}
use Rattle.bfs_tree.specs.Trees.{Attribute}
use Rattle.bfs_sound.specs.Volumes.{Volume}
use Rattle.bfs_sound.specs.Inodes.{HasBit, mode_bits, IsOwner}
use Rattle.bfs_sound.specs.Attributes.{attribute_at}
use Rattle.bfs_make.specs.declared.making.InodeForm.{InodeForm}

-- modes, in octal: an attribute directory 01000040700, an attribute 02000100644; and flags: in use, and an attribute's inode
abbrev pub directory_mode : ℤ
directory_mode = pos 0x80041c0

abbrev pub attribute_mode : ℤ
attribute_mode = pos 0x100081a4

abbrev pub directory_flags : ℤ
directory_flags = pos 1

abbrev pub attribute_flags : ℤ
attribute_flags = pos 5

-- the forms of both
abbrev pub directory_form : Run → ℤ → InodeForm
directory_form parent stamp = record { parent = parent; mode = directory_mode; flags = directory_flags; kind = 0; stamp = stamp }

abbrev pub attribute_form : Run → ℕ → ℤ → InodeForm
attribute_form parent kind stamp = record { parent = parent; mode = attribute_mode; flags = attribute_flags; kind = kind; stamp = stamp }

-- At this block of a volume stands the inode of an attribute: what a row of an attribute directory may name.
pub record IsAttributeInode (v : Volume) (id : ℕ) (attribute : Attribute) : Type 0 where
  pub owner : IsOwner v id
  pub mode : HasBit (mode_bits v id) 28
  pub attribute_is : attribute_at v id ≡ attribute
